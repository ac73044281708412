-- The printed bytes.
use Rattle.std.specs.Prelude.{ℕ, List, [], ◌∷◌, ◌++◌, take, drop, codes, decimal, Result}
use Rattle.std.specs.List.{flat_map}
use Rattle.std.specs.declared.result.Result.TheVariants as result
use Rattle.model.specs.Calls.{ModelAnswer, answer_refused}
use Rattle.model.specs.declared.report.ReportEntry.{ReportEntry}
use Rattle.model.specs.declared.report.Report.{Report}
use Rattle.book.specs.Answer.{answer_of, answer_words}
use Rattle.book.specs.declared.answer.Answer.{Answer}
use Rattle.protocol.specs.Faults.{fault_number, fault_place, fault_layer}
use Rattle.protocol.specs.declared.fault.Fault.{Fault}
use Rattle.protocol.specs.declared.fault.Layer.{Layer}
use Rattle.protocol.specs.declared.fault.Layer.TheVariants.{Line, UseTable, Book}

-- the reply to a line: the book's answer, or a line fault with its number and its place
pub data Reply : Type 0 where
  answer : ModelAnswer → Reply
  fault : ℕ → ℕ → Reply

-- the words of a reply
abbrev pub words : Reply → List ℕ
words (answer says) = answer_words says
words (fault number place) = codes "fault " ++ (decimal number ++ (codes " at " ++ decimal place))

-- a printed line: the number of the line that it answers, a space, words, and byte 10
abbrev pub printed_line : ℕ → List ℕ → List ℕ
printed_line number ws = decimal number ++ (codes " " ++ (ws ++ 10 ∷ []))

-- a word, a dispatch and a section
abbrev pub entry_words : List ℕ → ReportEntry → List ℕ
entry_words word x =
    word ++ (codes " " ++ (decimal x.dispatch ++ (codes " " ++ decimal x.section)))

-- a printed line for each of the named
abbrev pub entry_lines : ℕ → List ℕ → List ReportEntry → List ℕ
entry_lines number word xs = flat_map (λ x. printed_line number (entry_words word x)) xs

-- the printed lines of the recalled, then those of the woken
abbrev pub report_lines : ℕ → List ReportEntry → List ReportEntry → List ℕ
report_lines number recalls wakes =
    entry_lines number (codes "recall") recalls ++ entry_lines number (codes "wake") wakes

-- all that is printed for a line: the reply, then the recalled, then the woken
unfoldable pub printed : ℕ → Reply → List ReportEntry → List ReportEntry → List ℕ
printed number reply recalls wakes =
    printed_line number (words reply) ++ report_lines number recalls wakes

-- a fault of the line layer is a line fault, any other is a refusal
abbrev pub fault_reply : Layer → ℕ → ℕ → Reply
fault_reply Line number place = fault number place
fault_reply UseTable number place = answer (answer_refused number)
fault_reply Book number place = answer (answer_refused number)

-- the reply that an outcome is
abbrev pub reply_to : Result Answer Fault → Reply
reply_to (result.Ok a) = answer (answer_of (result.Ok a))
reply_to (result.Err f) = fault_reply (fault_layer f) (fault_number f) (fault_place f)

-- numbers beside sections
abbrev pub entries : List ℕ → List ℕ → List ReportEntry
entries [] ss = []
entries (d ∷ ds) [] = []
entries (d ∷ ds) (s ∷ ss) = record { dispatch = d; section = s } ∷ entries ds ss

-- the recalled that a report names: the first places
abbrev pub recalled_entries : Report → List ReportEntry
recalled_entries r =
    entries (take r.recalled r.dispatches) (take r.recalled r.sections)

-- the woken that a report names: the places after those
abbrev pub woken_entries : Report → List ReportEntry
woken_entries r =
    entries
    (take r.woken (drop r.recalled r.dispatches)) (take r.woken (drop r.recalled r.sections))
