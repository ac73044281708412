-- The first 33 bytes of a line say what it is read as.
use Rattle.std.proofs.Common.{◌≡◌, ℕ, ◌≤◌, List, length, take, Ok, Err, Result, sym, subst, arith}
use Rattle.std.proofs.lemmas.List.{length-take, take_all}
use Rattle.uses.specs.Relations.{Relations}
use Rattle.model.specs.State.{State}
use Rattle.model.specs.Recalling.{Order}
use Rattle.model.specs.declared.call.Call.{Call}
use Rattle.model.specs.declared.report.ReportEntry.{ReportEntry}
use Rattle.protocol.specs.Reading.{Reading, too_long, no_letter, wrong_form, correct}
use Rattle.protocol.specs.Words.{Reply}
use Rattle.protocol.specs.declared.fault.Fault.{Fault}
use Rattle.protocol.specs.declared.fault.Fault.TheVariants.{NoLetter, WrongForm}
use Rattle.session.specs.Transcript.{ReadAs, too_many, in_time, Gives, faulty, carried}

-- if the first 33 bytes are at most 32, they are all
kept_all : (line : List ℕ) → length (take 33 line) ≤ 32 → take 33 line ≡ line
kept_all line few = take_all 33 line (omega (arith, few, length-take 33 line))

-- what the first 33 bytes are read as, the line is read as
pub reading_kept : (line : List ℕ) (r : Result Call Fault) → Reading (take 33 line) r → Reading line r
reading_kept line _ (too_long many) = too_long (omega (arith, many, length-take 33 line))
reading_kept line _ (no_letter few h) = subst (λ (l : List ℕ). Reading l (Err NoLetter)) (kept_all line few) (no_letter few h)
reading_kept line _ (wrong_form few h place f) = subst (λ (l : List ℕ). Reading l (Err (WrongForm place))) (kept_all line few) (wrong_form few h place f)
reading_kept line _ (correct few c h) = subst (λ (l : List ℕ). Reading l (Ok c)) (kept_all line few) (correct few c h)

-- what a line is read as, its first 33 bytes are read as
reading_cut : (line : List ℕ) (r : Result Call Fault) → Reading line r → Reading (take 33 line) r
reading_cut line _ (too_long many) = too_long (omega (arith, many, length-take 33 line))
reading_cut line _ (no_letter few h) = subst (λ (l : List ℕ). Reading l (Err NoLetter)) (sym (take_all 33 line (omega arith))) (no_letter few h)
reading_cut line _ (wrong_form few h place f) = subst (λ (l : List ℕ). Reading l (Err (WrongForm place))) (sym (take_all 33 line (omega arith))) (wrong_form few h place f)
reading_cut line _ (correct few c h) = subst (λ (l : List ℕ). Reading l (Ok c)) (sym (take_all 33 line (omega arith))) (correct few c h)

-- lines with the same first 33 bytes are read alike
reading_same : (first line : List ℕ) (r : Result Call Fault) → take 33 first ≡ take 33 line → Reading first r → Reading line r
reading_same first line r same h = reading_kept line r (subst (λ (l : List ℕ). Reading l r) same (reading_cut first r h))

-- under any number
pub read_as_same : (number : ℕ) (first line : List ℕ) (r : Result Call Fault) → take 33 first ≡ take 33 line → ReadAs number first r → ReadAs number line r
read_as_same number first line _ same (too_many late) = too_many late
read_as_same number first line _ same (in_time below {r = r} reads) = in_time below (reading_same first line r same reads)

-- so they give the same
pub gives_same : (u : Relations) (o : Order) (number : ℕ) (s : State) (first line : List ℕ) (reply : Reply) (recalls wakes : List ReportEntry) (t : State) → take 33 first ≡ take 33 line → Gives u o number s first reply recalls wakes t → Gives u o number s line reply recalls wakes t
gives_same u o number s first line _ _ _ _ same (faulty f reads) = faulty f (read_as_same number first line (Err f) same reads)
gives_same u o number s first line _ _ _ _ same (carried c reads) = carried c (read_as_same number first line (Ok c) same reads)
