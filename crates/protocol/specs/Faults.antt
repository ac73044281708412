-- Faults, with the number, the place and the layer of each.
use Rattle.std.specs.Prelude.{ℕ}
use Rattle.book.specs.Answer.{number}
use Rattle.book.specs.declared.answer.Refusal.{Refusal}
use Rattle.book.specs.declared.answer.Refusal.TheVariants.{NumberTooHigh, SectionTooHigh, NotKnown, WeightTooHigh, IsRecalled, IsOpen, IsFree, IsWaiting, NoRoom, NotRecalled}
use Rattle.protocol.specs.declared.fault.Fault.{Fault}
use Rattle.protocol.specs.declared.fault.Fault.TheVariants.{TooManyLines, TooLong, NoLetter, WrongForm, Refused, Numbered}
use Rattle.protocol.specs.declared.fault.Layer.{Layer}
use Rattle.protocol.specs.declared.fault.Layer.TheVariants.{Line, UseTable, Book}

-- the field that a refusal concerns: the section and the weight are field 2, the use is field 3,
-- the dispatch is field 1
abbrev pub field : Refusal → ℕ
field NumberTooHigh = 1
field SectionTooHigh = 2
field NotKnown = 3
field WeightTooHigh = 2
field IsRecalled = 1
field IsOpen = 1
field IsFree = 1
field IsWaiting = 1
field NoRoom = 2
field NotRecalled = 1

-- who refuses: the use table an unknown use, the book all else
abbrev pub layer : Refusal → Layer
layer NumberTooHigh = Book
layer SectionTooHigh = Book
layer NotKnown = UseTable
layer WeightTooHigh = Book
layer IsRecalled = Book
layer IsOpen = Book
layer IsFree = Book
layer IsWaiting = Book
layer NoRoom = Book
layer NotRecalled = Book

-- the number of a fault
abbrev pub fault_number : Fault → ℕ
fault_number TooManyLines = 44
fault_number TooLong = 41
fault_number NoLetter = 42
fault_number (WrongForm place) = 43
fault_number (Refused refusal) = number refusal
fault_number (Numbered layer number place) = number

-- the place of a fault: of a line the byte, of a refusal the field
abbrev pub fault_place : Fault → ℕ
fault_place TooManyLines = 1
fault_place TooLong = 33
fault_place NoLetter = 1
fault_place (WrongForm place) = place
fault_place (Refused refusal) = field refusal
fault_place (Numbered layer number place) = place

-- where a fault is found
abbrev pub fault_layer : Fault → Layer
fault_layer TooManyLines = Line
fault_layer TooLong = Line
fault_layer NoLetter = Line
fault_layer (WrongForm place) = Line
fault_layer (Refused refusal) = layer refusal
fault_layer (Numbered layer number place) = layer
