-- Lines print one text, and are the calls of one run.
use Rattle.std.proofs.Common.{◌≡◌, ℕ, suc, List, [], ◌++◌, Ok, Err, Result, refl, ap, ◌∙◌, subst, arith}
use Rattle.uses.specs.Relations.{Relations}
use Rattle.model.specs.State.{State}
use Rattle.model.specs.Recalling.{Order}
use Rattle.model.specs.Calls.{step}
use Rattle.model.specs.Runs.{Run, next}
use Rattle.model.specs.declared.call.Call.{Call}
use Rattle.model.specs.declared.report.ReportEntry.{ReportEntry}
use Rattle.model.specs.declared.state.Detection.{Detection}
use Rattle.protocol.specs.Faults.{fault_number, fault_place}
use Rattle.protocol.specs.Reading.{Reading}
use Rattle.protocol.specs.Words.{Reply, answer, fault, printed}
use Rattle.protocol.specs.declared.fault.Fault.{Fault}
use Rattle.protocol.proofs.OneReading.{reading_unique}
use Rattle.session.specs.Inputs.{Lines, count, with_rest}
use Rattle.session.specs.Transcript.{ReadAs, too_many, in_time, Gives, faulty, carried, Turn, is_read, is_past, AnswersLines, nothing, then_line}
use Rattle.session.specs.Lawful.{GoesOn, by_call, by_none, nothing as no_call, then_line as then_goes_on}
use Rattle.session.specs.Theorems.{TranscriptUnique, RunUnique}
use Rattle.session.proofs.OneCut.{cut_once}

-- a line is read in one way
abbrev pub ReadsOnce : Type 0
ReadsOnce = (line : List ℕ) (r s : Result Call Fault) → Reading line r → Reading line s → r ≡ s

-- so is one with its number
read_once : (once : ReadsOnce) (n : ℕ) (line : List ℕ) (r s : Result Call Fault) → ReadAs n line r → ReadAs n line s → r ≡ s
read_once once n line _ _ (too_many late) (too_many _) = refl
read_once once n line _ _ (too_many late) (in_time below _) = absurd (omega (arith, late, below))
read_once once n line _ _ (in_time below _) (too_many late) = absurd (omega (arith, late, below))
read_once once n line _ _ (in_time _ {r = r} a) (in_time _ {r = s} b) = once line r s a b

-- what a line gives is printed in one way, and leaves one state
gives_once : (once : ReadsOnce) (u : Relations) (o : Order) (n : ℕ) (s : State) (line : List ℕ) (p q : Reply) (xs ys vs ws : List ReportEntry) (t r : State) → Gives u o n s line p xs ys t → Gives u o n s line q vs ws r → (printed n p xs ys ≡ printed n q vs ws) × (t ≡ r)
gives_once once u o n s line _ _ _ _ _ _ _ _ (faulty f a) (faulty g b) =
    let e : ◌≡◌ {A = Result Call Fault} (Err f) (Err g) = read_once once n line (Err f) (Err g) a b in
    let same : f ≡ g = grind (arith, e) in
    (ap (λ (x : Fault). printed n (fault (fault_number x) (fault_place x)) [] []) same, refl)
gives_once once u o n s line _ _ _ _ _ _ _ _ (faulty f a) (carried d b) =
    let e : ◌≡◌ {A = Result Call Fault} (Err f) (Ok d) = read_once once n line (Err f) (Ok d) a b in
    absurd (grind (arith, e))
gives_once once u o n s line _ _ _ _ _ _ _ _ (carried c a) (faulty f b) =
    let e : ◌≡◌ {A = Result Call Fault} (Err f) (Ok c) = read_once once n line (Err f) (Ok c) b a in
    absurd (grind (arith, e))
gives_once once u o n s line _ _ _ _ _ _ _ _ (carried c a) (carried d b) =
    let e : ◌≡◌ {A = Result Call Fault} (Ok c) (Ok d) = read_once once n line (Ok c) (Ok d) a b in
    let same : c ≡ d = grind (arith, e) in
    (ap (λ (x : Call). printed n (answer (step u o s x).answer) (step u o s x).recalls (step u o s x).wakes) same, ap (λ (x : Call). (step u o s x).state) same)

-- so is its turn
turn_once : (once : ReadsOnce) (u : Relations) (o : Order) (n : ℕ) (s : State) (line one other : List ℕ) (t r : State) → Turn u o n s line one t → Turn u o n s line other r → (one ≡ other) × (t ≡ r)
turn_once once u o n s line _ _ _ _ (is_read _ {reply = p} {recalls = xs} {wakes = ys} {t = t} a) (is_read _ {reply = q} {recalls = vs} {wakes = ws} {t = r} b) = gives_once once u o n s line p q xs ys vs ws t r a b
turn_once once u o n s line _ _ _ _ (is_read early _) (is_past late) = absurd (omega (arith, late, early))
turn_once once u o n s line _ _ _ _ (is_past late) (is_read early _) = absurd (omega (arith, late, early))
turn_once once u o n s line _ _ _ _ (is_past _) (is_past _) = (refl, refl)

-- all lines together
pub answered_once : (once : ReadsOnce) (u : Relations) (o : Order) (detection : Detection) (ls : Lines) (one other : List ℕ) (t r : State) → AnswersLines u o detection ls one t → AnswersLines u o detection ls other r → (one ≡ other) × (t ≡ r)
answered_once once u o detection _ _ _ _ _ nothing nothing = (refl, refl)
answered_once once u o detection _ _ _ _ _ (then_line {ls = ls} {before = a} {now = b} {s = s} {t = t} {line = line} h turn) (then_line {before = c} {now = d} {s = r} {t = v} k other) =
    let before : (a ≡ c) × (s ≡ r) = answered_once once u o detection ls a c s r h k in
    let here : (b ≡ d) × (t ≡ v) = turn_once once u o (suc (count ls)) r line b d t v (subst (λ (x : State). Turn u o (suc (count ls)) x line b t) before.1 turn) other in
    (ap (λ (x : List ℕ). x ++ b) before.0 ∙ ap (λ (x : List ℕ). c ++ x) here.0, here.1)

pub transcript_unique : TranscriptUnique
transcript_unique u o detection input one other a b =
    let same : (a.ended ≡ b.ended) × (a.rest ≡ b.rest) = cut_once input a.ended b.ended a.rest b.rest a.cut b.cut in
    let lines : with_rest a.ended a.rest ≡ with_rest b.ended b.rest = ap (λ (ls : Lines). with_rest ls a.rest) same.0 ∙ ap (λ (r : List ℕ). with_rest b.ended r) same.1 in
    (answered_once reading_unique u o detection (with_rest b.ended b.rest) one other a.left b.left (subst (λ (ls : Lines). AnswersLines u o detection ls one a.left) lines a.answered) b.answered).0

-- a run goes on with a line in one way
goes_on_once : (once : ReadsOnce) (n : ℕ) (line : List ℕ) (r one other : Run) → GoesOn n line r one → GoesOn n line r other → one ≡ other
goes_on_once once n line r _ _ (by_call c a) (by_call d b) =
    let e : ◌≡◌ {A = Result Call Fault} (Ok c) (Ok d) = read_once once n line (Ok c) (Ok d) a b in
    let same : c ≡ d = grind (arith, e) in
    ap (λ (x : Call). next r x) same
goes_on_once once n line r _ _ (by_call c a) (by_none f b) =
    let e : ◌≡◌ {A = Result Call Fault} (Ok c) (Err f) = read_once once n line (Ok c) (Err f) a b in
    absurd (grind (arith, e))
goes_on_once once n line r _ _ (by_none f a) (by_call c b) =
    let e : ◌≡◌ {A = Result Call Fault} (Err f) (Ok c) = read_once once n line (Err f) (Ok c) a b in
    absurd (grind (arith, e))
goes_on_once once n line r _ _ (by_none _ _) (by_none _ _) = refl

pub run_unique : RunUnique
run_unique detection _ _ _ no_call no_call = refl
run_unique detection _ _ _ (then_goes_on {ls = ls} {r = r} {longer = one} {line = line} a goes) (then_goes_on {r = s} {longer = other} b also) =
    goes_on_once reading_unique (suc (count ls)) line s one other (subst (λ (x : Run). GoesOn (suc (count ls)) line x one) (run_unique detection ls r s a b) goes) also
