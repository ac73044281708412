-- The worked examples are right.
use Rattle.std.proofs.Common.{◌≡◌, ℕ, suc, ◌<◌, List, [], ◌∷◌, ◌++◌, take, codes, Some, Ok, Err, sym, refl, ap, ◌∙◌, arith, rules}
use Rattle.std.specs.Fmt.{digits}
use Rattle.uses.specs.TwoUses.{two_uses}
use Rattle.orders.specs.Orders.{newest}
use Rattle.model.specs.State.{State, new}
use Rattle.model.specs.Graph.{closure}
use Rattle.model.specs.Recalling.{on_cycles, recall_result_within, recall_result}
use Rattle.model.specs.Calls.{step, report_of}
use Rattle.model.specs.declared.call.Call.{Call}
use Rattle.model.specs.declared.call.Call.TheVariants.{Open, Claim, Close, Acknowledge, Sweep}
use Rattle.model.specs.declared.state.Detection.TheVariants.{Continuous, Periodic}
use Rattle.model.specs.declared.state.Detection.{Detection}
use Rattle.model.specs.Runs.{Run, start, next}
use Rattle.model.specs.LawExamples.{two_stations_run}
use Rattle.book.specs.declared.answer.Refusal.TheVariants.{NotKnown}
use Rattle.protocol.specs.Faults.{fault_number, fault_place}
use Rattle.protocol.specs.Reading.{Reading}
use Rattle.protocol.specs.Words.{answer, fault, printed}
use Rattle.protocol.specs.declared.fault.Fault.{Fault}
use Rattle.protocol.specs.declared.fault.Fault.TheVariants.{TooManyLines, WrongForm, Refused}
use Rattle.protocol.proofs.Texts.{one_field, two_fields, three_fields, first}
use Rattle.protocol.proofs.Letters.{reads_call, reads_wrong, reads_empty, spells_open, spells_claim, spells_close, spells_acknowledge, spells_sweep}
use Rattle.protocol.proofs.Coming.{came_end}
use Rattle.session.specs.Inputs.{Lines, none, more, count, Cut}
use Rattle.session.specs.Transcript.{too_many, in_time, faulty, carried, Turn, is_read, is_past, AnswersLines, nothing, then_line, Transcript}
use Rattle.session.specs.Lawful as lawfully
use Rattle.session.specs.Lawful.{GoesOn, RunOf}
use Rattle.session.specs.NumberedLine.{Responds, by_fault, by_call}
use Rattle.session.specs.History.{position_of_parts, HasRead, HasFinished}
use Rattle.session.specs.Stands.{WritesFront}
use Rattle.session.specs.Examples.{input, text, lines, run, ExamplesRight}
use Rattle.session.proofs.OneCut.{cut_once}
use Rattle.session.proofs.OneAnswer.{run_unique}
use Rattle.session.proofs.Runs.{lawful_run}

-- the lines have been answered, so far
abbrev SoFar : Lines → List ℕ → State → Type 0
SoFar = AnswersLines two_uses newest Continuous

-- a line more is carried out
then_carried : {ls : Lines} {before : List ℕ} {s : State} (line : List ℕ) (c : Call) → suc (count ls) < 1000000 → Reading line (Ok c) → SoFar ls before s
    → SoFar (more ls line) (before ++ printed (suc (count ls)) (answer (step two_uses newest s c).answer) (step two_uses newest s c).recalls (step two_uses newest s c).wakes) (step two_uses newest s c).state
then_carried line c few reading so_far = then_line so_far (is_read (omega (arith, few)) (carried c (in_time few reading)))

-- a line more is faulty
then_faulty : {ls : Lines} {before : List ℕ} {s : State} (line : List ℕ) (f : Fault) → suc (count ls) < 1000000 → Reading line (Err f) → SoFar ls before s
    → SoFar (more ls line) (before ++ printed (suc (count ls)) (fault (fault_number f) (fault_place f)) [] []) s
then_faulty line f few reading so_far = then_line so_far (is_read (omega (arith, few)) (faulty f (in_time few reading)))

-- a line more is a call of the run
goes_call : {ls : Lines} {r : Run} (line : List ℕ) (c : Call) → suc (count ls) < 1000000 → Reading line (Ok c) → RunOf Continuous ls r → RunOf Continuous (more ls line) (next r c)
goes_call line c few reading so_far = lawfully.then_line so_far (lawfully.by_call c (in_time few reading))

-- a line more is no call
goes_none : {ls : Lines} {r : Run} (line : List ℕ) (f : Fault) → suc (count ls) < 1000000 → Reading line (Err f) → RunOf Continuous ls r → RunOf Continuous (more ls line) r
goes_none line f few reading so_far = lawfully.then_line so_far (lawfully.by_none f (in_time few reading))

open_1 : Reading (codes "O 1 5") (Ok (Open 1 5))
open_1 = reads_call spells_open 79 (codes " 1 5") (1 ∷ 5 ∷ []) refl (omega arith) refl (two_fields (codes "1 5") (codes "5") (omega arith) refl (omega arith) refl)

open_2 : Reading (codes "O 2 5") (Ok (Open 2 5))
open_2 = reads_call spells_open 79 (codes " 2 5") (2 ∷ 5 ∷ []) refl (omega arith) refl (two_fields (codes "2 5") (codes "5") (omega arith) refl (omega arith) refl)

own_1 : Reading (codes "C 1 10 1") (Ok (Claim 1 10 1))
own_1 = reads_call spells_claim 67 (codes " 1 10 1") (1 ∷ 10 ∷ 1 ∷ []) refl (omega arith) refl (three_fields (codes "1 10 1") (codes "10 1") (codes "1") (omega arith) refl (omega arith) refl (omega arith) refl)

own_2 : Reading (codes "C 2 11 1") (Ok (Claim 2 11 1))
own_2 = reads_call spells_claim 67 (codes " 2 11 1") (2 ∷ 11 ∷ 1 ∷ []) refl (omega arith) refl (three_fields (codes "2 11 1") (codes "11 1") (codes "1") (omega arith) refl (omega arith) refl (omega arith) refl)

other_1 : Reading (codes "C 1 11 1") (Ok (Claim 1 11 1))
other_1 = reads_call spells_claim 67 (codes " 1 11 1") (1 ∷ 11 ∷ 1 ∷ []) refl (omega arith) refl (three_fields (codes "1 11 1") (codes "11 1") (codes "1") (omega arith) refl (omega arith) refl (omega arith) refl)

other_2 : Reading (codes "C 2 10 1") (Ok (Claim 2 10 1))
other_2 = reads_call spells_claim 67 (codes " 2 10 1") (2 ∷ 10 ∷ 1 ∷ []) refl (omega arith) refl (three_fields (codes "2 10 1") (codes "10 1") (codes "1") (omega arith) refl (omega arith) refl (omega arith) refl)

close_9 : Reading (codes "E 9") (Ok (Close 9))
close_9 = reads_call spells_close 69 (codes " 9") (9 ∷ []) refl (omega arith) refl (one_field (codes "9") (omega arith) refl)

leading_zero : Reading (codes "E 01") (Err (WrongForm 4))
leading_zero = reads_wrong spells_close 69 (codes " 01") _ refl (omega arith) (came_end (codes " 01") (0 ∷ []) (codes "1") 4 1 _ (first (codes "01") (omega arith)) refl (omega arith) refl)

acknowledge_2 : Reading (codes "A 2") (Ok (Acknowledge 2))
acknowledge_2 = reads_call spells_acknowledge 65 (codes " 2") (2 ∷ []) refl (omega arith) refl (one_field (codes "2") (omega arith) refl)

session : Transcript two_uses newest Continuous input text
unfolding step closure on_cycles recall_result_within recall_result printed digits
session = record {
  ended = more (more (more (more (more (more (more (more (more none (codes "O 1 5")) (codes "O 2 5")) (codes "C 1 10 1")) (codes "C 2 11 1")) (codes "C 1 11 1")) (codes "C 2 10 1")) (codes "E 9")) (codes "E 01")) [];
  rest = codes "A 2";
  left = _;
  cut = record { made = refl; lines_unbroken = (((((((((tt, refl), refl), refl), refl), refl), refl), refl), refl), refl); rest_unbroken = refl };
  answered =
      then_carried _ _ (omega arith) acknowledge_2
      (then_faulty _ _ (omega arith) (reads_empty [] _ refl refl)
      (then_faulty _ _ (omega arith) leading_zero
      (then_carried _ _ (omega arith) close_9
      (then_carried _ _ (omega arith) other_2
      (then_carried _ _ (omega arith) other_1
      (then_carried _ _ (omega arith) own_2
      (then_carried _ _ (omega arith) own_1
      (then_carried _ _ (omega arith) open_2
      (then_carried _ _ (omega arith) open_1 nothing)))))))));
}

sweeps : Reading (codes "S") (Ok Sweep)
sweeps = reads_call spells_sweep 83 [] [] refl (omega arith) refl refl

one_line : Transcript two_uses newest Continuous (codes "S\n") (codes "1 ok\n")
unfolding step closure on_cycles recall_result_within recall_result printed digits
one_line = record {
  ended = more none (codes "S");
  rest = [];
  left = _;
  cut = record { made = refl; lines_unbroken = (tt, refl); rest_unbroken = refl };
  answered = then_carried _ _ (omega arith) sweeps nothing;
}

no_line : Transcript two_uses newest Continuous [] []
no_line = record { ended = none; rest = []; left = _; cut = record { made = refl; lines_unbroken = tt; rest_unbroken = refl }; answered = nothing }

last_but_one : Turn two_uses newest 999999 (new Continuous) (codes "S") (codes "999999 ok\n") (new Continuous)
unfolding step closure on_cycles recall_result_within recall_result printed digits
last_but_one = is_read (omega arith) (carried Sweep (in_time (omega arith) sweeps))

last : Turn two_uses newest 1000000 (new Continuous) (codes "S") (codes "1000000 fault 44 at 1\n") (new Continuous)
unfolding printed digits
last = is_read (omega arith) (faulty TooManyLines (too_many (omega arith)))

-- the session's lines are its calls
run_of_session : RunOf Continuous lines run
run_of_session =
    goes_call (codes "A 2") (Acknowledge 2) (omega arith) acknowledge_2
    (goes_none [] _ (omega arith) (reads_empty [] _ refl refl)
    (goes_none (codes "E 01") _ (omega arith) leading_zero
    (goes_call (codes "E 9") (Close 9) (omega arith) close_9
    (goes_call (codes "C 2 10 1") (Claim 2 10 1) (omega arith) other_2
    (goes_call (codes "C 1 11 1") (Claim 1 11 1) (omega arith) other_1
    (goes_call (codes "C 2 11 1") (Claim 2 11 1) (omega arith) own_2
    (goes_call (codes "C 1 10 1") (Claim 1 10 1) (omega arith) own_1
    (goes_call (codes "O 2 5") (Open 2 5) (omega arith) open_2
    (goes_call (codes "O 1 5") (Open 1 5) (omega arith) open_1 lawfully.nothing)))))))))

-- how many calls a run has
calls : Run → ℕ
calls (start detection) = 0
calls (next r c) = suc (calls r)

-- a run with more calls or fewer is another
call_missing : ¬ RunOf Continuous lines (next (two_stations_run Continuous) (Acknowledge 2))
unfolding calls
call_missing other = omega (arith, ap calls (run_unique Continuous lines run (next (two_stations_run Continuous) (Acknowledge 2)) run_of_session other))

call_too_many : ¬ RunOf Continuous lines (next run Sweep)
unfolding calls
call_too_many other = omega (arith, ap calls (run_unique Continuous lines run (next run Sweep) run_of_session other))

-- so is one of the other detection
detection_of : Run → Detection
detection_of (start detection) = detection
detection_of (next r c) = detection_of r

other_detection : ¬ RunOf Continuous none (start Periodic)
unfolding detection_of
other_detection other = let same : Continuous ≡ Periodic = ap detection_of (run_unique Continuous none (start Continuous) (start Periodic) lawfully.nothing other) in cc

last_call : GoesOn 999999 (codes "S") (start Continuous) (next (start Continuous) Sweep)
last_call = lawfully.by_call Sweep (in_time (omega arith) sweeps)

no_last_call : ¬ GoesOn 1000000 (codes "S") (start Continuous) (next (start Continuous) Sweep)
no_last_call (lawfully.by_call c (in_time below _)) = omega (arith, below)

later_line : GoesOn 1000001 (codes "S") (start Continuous) (start Continuous)
later_line = lawfully.by_none TooManyLines (too_many (omega arith))

no_later_call : ¬ GoesOn 1000001 (codes "S") (start Continuous) (next (start Continuous) Sweep)
no_later_call (lawfully.by_call c (in_time below _)) = omega (arith, below)

unknown_use : Reading (codes "C 1 10 9") (Ok (Claim 1 10 9))
unknown_use = reads_call spells_claim 67 (codes " 1 10 9") (1 ∷ 10 ∷ 9 ∷ []) refl (omega arith) refl (three_fields (codes "1 10 9") (codes "10 9") (codes "9") (omega arith) refl (omega arith) refl (omega arith) refl)

refused : Responds two_uses newest 1 (codes "C 1 10 9") (new Continuous) (Err (Refused NotKnown)) (report_of [] []) (new Continuous)
unfolding step closure on_cycles recall_result_within recall_result
refused = by_call (Claim 1 10 9) (in_time (omega arith) unknown_use) {answer = Err NotKnown} (record { answered = refl; reported = refl; left = refl; verdict = refl; on_refusal = (refl, refl) })

too_late : Responds two_uses newest 1000001 (codes "S") (new Continuous) (Err TooManyLines) (report_of [] []) (new Continuous)
too_late = by_fault TooManyLines (too_many (omega arith))

-- the lines of two sweeps, of which the second has only begun
cut_begun : Cut (codes "S\nS") (more none (codes "S")) (codes "S")
cut_begun = record { made = refl; lines_unbroken = (tt, refl); rest_unbroken = refl }

line_begun : HasRead two_uses newest Continuous (codes "S\nS") (codes "1 ok\n") (position_of_parts (new Continuous) 1 (codes "S"))
unfolding step closure on_cycles recall_result_within recall_result printed digits
line_begun = record {
  ended = more none (codes "S");
  rest = codes "S";
  cut = cut_begun;
  stands = record { answered = then_carried _ _ (omega arith) sweeps nothing; counted = refl; kept = refl };
}

line_forgotten : ¬ HasRead two_uses newest Continuous (codes "S\nS") (codes "1 ok\n") (position_of_parts (new Continuous) 1 [])
line_forgotten h =
    let same : h.rest ≡ codes "S" = (cut_once (codes "S\nS") h.ended (more none (codes "S")) h.rest (codes "S") h.cut cut_begun).1 in
    let kept : [] ≡ take 33 (codes "S") = h.stands.kept ∙ ap (λ (xs : List ℕ). take 33 xs) same in
    cc

line_ended : HasFinished two_uses newest Continuous (codes "S\nS") (codes "1 ok\n2 ok\n") (position_of_parts (new Continuous) 2 [])
unfolding step closure on_cycles recall_result_within recall_result printed digits
line_ended =
    let answered : SoFar (more (more none (codes "S")) (codes "S")) (codes "1 ok\n2 ok\n") (new Continuous) = then_carried _ _ (omega arith) sweeps (then_carried _ _ (omega arith) sweeps nothing) in
    record {
      done = record {
        transcript = record { ended = more none (codes "S"); rest = codes "S"; left = new Continuous; cut = cut_begun; answered = answered };
        runs = lawful_run two_uses newest Continuous (search rules) (search rules) answered;
      };
      left = refl;
      counted = refl;
      none_begun = refl;
    }

-- a text that begins with a 2 does not begin with an o
end_written : ¬ WritesFront (Some []) (Some (codes "ok")) (codes "2 ok")
end_written w = let same : codes "2 ok" ≡ codes "ok" ++ w.1 = w.2 ∙ ap (λ (xs : List ℕ). xs ++ w.1) (sym w.3) in cc

pub examples_right : ExamplesRight
examples_right = record {
  session = session;
  one_line = one_line;
  no_line = no_line;
  last_but_one = last_but_one;
  last = last;
  past = is_past (omega arith);
  lines_of_session = refl;
  run_of_session = run_of_session;
  call_missing = call_missing;
  call_too_many = call_too_many;
  other_detection = other_detection;
  last_call = last_call;
  no_last_call = no_last_call;
  later_line = later_line;
  no_later_call = no_later_call;
  refused = refused;
  too_late = too_late;
  line_begun = line_begun;
  line_forgotten = line_forgotten;
  line_ended = line_ended;
  front_written = (codes "2 o", codes "k\n", refl, refl);
  end_written = end_written;
  counted = refl;
  counted_to_the_last = refl;
}
