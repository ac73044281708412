-- Answers and refusals: what each case says, its number, and its words.
use Rattle.std.specs.Prelude.{◌≡◌, ℕ, Bool, true, false, List, ◌++◌, codes, decimal, Some, None, Ok, Err, Result}
use Rattle.std.specs.declared.result.Result.TheVariants as result
use Rattle.model.specs.Calls.{ModelAnswer, answer_ok, answer_granted, answer_covered, answer_waits, answer_recalled, answer_refused, Check, refusal}
use Rattle.book.specs.declared.answer.Answer.{Answer}
use Rattle.book.specs.declared.answer.Answer.TheVariants.{Ok, Granted, Covered, Waits, Recalled}
use Rattle.book.specs.declared.answer.Refusal.{Refusal}
use Rattle.book.specs.declared.answer.Refusal.TheVariants.{NumberTooHigh, SectionTooHigh, NotKnown, WeightTooHigh, IsRecalled, IsOpen, IsFree, IsWaiting, NoRoom, NotRecalled}

-- the number of a refusal
abbrev pub number : Refusal → ℕ
number NumberTooHigh = 1
number SectionTooHigh = 2
number NotKnown = 3
number WeightTooHigh = 4
number IsRecalled = 5
number IsOpen = 6
number IsFree = 7
number IsWaiting = 8
number NoRoom = 9
number NotRecalled = 10

-- the reason for a refusal, in words
abbrev pub reason_words : Refusal → List ℕ
reason_words NumberTooHigh = codes "the dispatch number is above 63"
reason_words SectionTooHigh = codes "the section is above 1023"
reason_words NotKnown = codes "the use is unknown"
reason_words WeightTooHigh = codes "the weight is above 1000"
reason_words IsRecalled = codes "the dispatch is recalled"
reason_words IsOpen = codes "the dispatch is open"
reason_words IsFree = codes "the dispatch is free"
reason_words IsWaiting = codes "the dispatch waits"
reason_words NoRoom = codes "512 claims stand"
reason_words NotRecalled = codes "the dispatch is not recalled"

-- the model's answer for an answer or a refusal
abbrev pub answer_of : Result Answer Refusal → ModelAnswer
answer_of (result.Ok Ok) = answer_ok
answer_of (result.Ok Granted) = answer_granted
answer_of (result.Ok Covered) = answer_covered
answer_of (result.Ok Waits) = answer_waits
answer_of (result.Ok Recalled) = answer_recalled
answer_of (result.Err refusal) = answer_refused (number refusal)

-- the words of an answer
abbrev pub answer_words : ModelAnswer → List ℕ
answer_words answer_ok = codes "ok"
answer_words answer_granted = codes "granted"
answer_words answer_covered = codes "covered"
answer_words answer_waits = codes "waits"
answer_words answer_recalled = codes "recalled"
answer_words (answer_refused number) = codes "refused " ++ decimal number

-- whether an answer says that the claim is granted: newly, or as covered by an earlier one
abbrev pub says_granted : Answer → Bool
says_granted Ok = false
says_granted Granted = true
says_granted Covered = true
says_granted Waits = false
says_granted Recalled = false

-- passed, with a value, where no check of the list applies; else refused by the first that does
abbrev pub IsChecked : {X : Type 0} → Result X Refusal → List Check → (X → Type 0) → Type 0
IsChecked (result.Ok x) checks P = (refusal checks ≡ None) × P x
IsChecked (result.Err e) checks P = refusal checks ≡ Some (number e)
