-- Worked examples, which can be checked by hand: runs with every answer and report, what a book
-- answers after a run, a report in its places, and charts of the tables of uses.
use Rattle.std.specs.Prelude.{◌≡◌, ℕ, Bool, true, false, if◌then◌else◌, ◌||◌, List, [], ◌∷◌, ◌++◌, map, replicate, codes, Some, None, Ok, Err, Option, Result, ◌==◌, nat_le, nat_lt}
use Rattle.std.specs.List.{AllByRecursion, range_with_len}
use Rattle.uses.specs.Relations.{Relations}
use Rattle.uses.specs.TwoUses.{two_uses}
use Rattle.uses.specs.FiveUses.{five_uses, IS, IX, S, SIX, X}
use Rattle.uses.specs.Spans.{spans}
use Rattle.orders.specs.Orders.{newest, lightest, fewest, pair}
use Rattle.model.specs.Claims.{waiting_claims, held_count, claim_waits}
use Rattle.model.specs.State.{State, new, is_open, is_free}
use Rattle.model.specs.Recalling.{Order}
use Rattle.model.specs.Calls.{ModelAnswer, claim_of, step, report, report_of, answer_ok, answer_granted, answer_covered, answer_waits, answer_recalled, answer_refused}
use Rattle.model.specs.Report.{report_text}
use Rattle.model.specs.Questions.{condition_asked, waited_for, holders}
use Rattle.model.specs.declared.call.Call.{Call}
use Rattle.model.specs.declared.call.Call.TheVariants.{Open, Claim, Close, Withdraw, Acknowledge, Sweep}
use Rattle.model.specs.declared.report.ReportEntry.{ReportEntry}
use Rattle.model.specs.declared.report.Report.{Report}
use Rattle.model.specs.declared.state.Condition.{Condition}
use Rattle.model.specs.declared.state.Condition.TheVariants.{Free, Running, Waiting, Recalled}
use Rattle.model.specs.declared.state.Detection.{Detection}
use Rattle.model.specs.declared.state.Detection.TheVariants.{Continuous, Periodic}

-- a call, and what it gives: its answer, the recalled and the woken
pub record Line : Type 0 where
  pub made : Call
  pub answer : ModelAnswer
  pub recalls : List ReportEntry
  pub wakes : List ReportEntry

-- a question about a dispatch's condition, answered
abbrev pub Asked : Type 0
Asked = Result (Condition × Option ℕ) ℕ

-- an example; its answers stand beside those that are wanted
pub data Example : Type 0 where
  -- a run from a new book, line by line
  played : Detection → Relations → Order → List Line → Example
  -- answers to calls
  answered : List (ModelAnswer × ModelAnswer) → Example
  -- how dispatches stand
  stood : List (Asked × Asked) → Example
  -- yes or no
  asked : List (Bool × Bool) → Example
  -- reports
  reported : List (Report × Report) → Example
  -- printed bytes
  printed : List (List ℕ × List ℕ) → Example
  -- a relation of uses, and its chart
  charted : (ℕ → ℕ → Bool) → List ℕ → List (List ℕ) → Example

module _ (u : Relations) (o : Order) where
  -- each call gives what its line says
  abbrev pub Gives : State → List Line → Type 0
  Gives s [] = Unit {0}
  Gives s (l ∷ ls) =
      ((step u o s l.made).answer ≡ l.answer)
      × ((step u o s l.made).recalls ≡ l.recalls)
      × ((step u o s l.made).wakes ≡ l.wakes)
      × Gives (step u o s l.made).state ls

  -- the state after calls
  abbrev pub after : State → List Call → State
  after s [] = s
  after s (c ∷ cs) = after (step u o s c).state cs

-- a chart of a relation: a row for each use, with an x where it stands in the relation to the use
-- of the column
abbrev pub chart : (ℕ → ℕ → Bool) → List ℕ → List (List ℕ)
chart r uses = map (λ a. map (λ b. if r a b then 120 else 46) uses) uses

-- the example is right
abbrev pub IsRight : Example → Type 0
IsRight (played detection u o ls) = Gives u o (new detection) ls
IsRight (answered answers) = AllByRecursion (λ a. a.0 ≡ a.1) answers
IsRight (stood answers) = AllByRecursion (λ a. a.0 ≡ a.1) answers
IsRight (asked answers) = AllByRecursion (λ a. a.0 ≡ a.1) answers
IsRight (reported reports) = AllByRecursion (λ r. r.0 ≡ r.1) reports
IsRight (printed texts) = AllByRecursion (λ t. t.0 ≡ t.1) texts
IsRight (charted r uses rows) = chart r uses ≡ rows

infixl 70 ◌at◌ ◌⇒◌
-- a dispatch at a section
abbrev pub ◌at◌ : ℕ → ℕ → ReportEntry
d at section = record { dispatch = d; section = section }

-- a call with its answer; it recalls and wakes nobody
abbrev pub ◌⇒◌ : Call → ModelAnswer → Line
c ⇒ a = record { made = c; answer = a; recalls = []; wakes = [] }

-- a line, and whom its call recalls
abbrev pub recalling : Line → List ReportEntry → Line
recalling l ns = record { made = l.made; answer = l.answer; recalls = ns; wakes = l.wakes }

-- a line, and whom its call wakes
abbrev pub waking : Line → List ReportEntry → Line
waking l ns = record { made = l.made; answer = l.answer; recalls = l.recalls; wakes = ns }

-- the code of a look
abbrev pub look : ℕ
look = 0

-- the code of a move
abbrev pub move : ℕ
move = 1

-- a sweep of a new book
abbrev pub sweep_of_a_new_book : Example
sweep_of_a_new_book = played Continuous two_uses newest (Sweep ⇒ answer_ok ∷ [])

-- who moves on a section may look at it
abbrev pub covered_claim : Example
covered_claim =
    played Continuous two_uses newest
    (Open 1 5 ⇒ answer_ok ∷ Claim 1 10 move ⇒ answer_granted
    ∷ Claim 1 10 look ⇒ answer_covered ∷ [])

-- two stations, each with its own dock, each claims the other's
abbrev pub two_stations : Example
two_stations =
    played Continuous two_uses newest
    (Open 1 5 ⇒ answer_ok ∷ Open 2 5 ⇒ answer_ok
    ∷ Claim 1 10 move ⇒ answer_granted ∷ Claim 2 11 move ⇒ answer_granted
    ∷ Claim 1 11 move ⇒ answer_waits
    ∷ waking (recalling (Claim 2 10 move ⇒ answer_recalled) (2 at 10 ∷ [])) (1 at 11 ∷ [])
    ∷ Acknowledge 2 ⇒ answer_ok ∷ [])

-- two look at one section, and both then claim to move there; and what comes then
abbrev pub double_upgrade_and : List Line → Example
double_upgrade_and ls =
    played Continuous two_uses newest
    (Open 1 5 ⇒ answer_ok ∷ Open 2 5 ⇒ answer_ok
    ∷ Claim 1 7 look ⇒ answer_granted ∷ Claim 2 7 look ⇒ answer_granted
    ∷ Claim 1 7 move ⇒ answer_waits
    ∷ waking (recalling (Claim 2 7 move ⇒ answer_recalled) (2 at 7 ∷ [])) (1 at 7 ∷ []) ∷ ls)

-- the newer one is recalled, and the other goes on
abbrev pub double_upgrade : Example
double_upgrade = double_upgrade_and []

-- a look waits behind a move that waits
abbrev pub behind_a_waiting_claim : Example
behind_a_waiting_claim =
    played Continuous two_uses newest
    (Open 1 5 ⇒ answer_ok ∷ Open 2 5 ⇒ answer_ok ∷ Open 3 5 ⇒ answer_ok
    ∷ Claim 1 7 look ⇒ answer_granted ∷ Claim 2 7 move ⇒ answer_waits
    ∷ Claim 3 7 look ⇒ answer_waits ∷ waking (Close 1 ⇒ answer_ok) (2 at 7 ∷ []) ∷ [])

-- a claim that conflicts with nothing passes one that waits
abbrev pub beside_a_waiting_claim : Example
beside_a_waiting_claim =
    played Continuous five_uses newest
    (Open 1 5 ⇒ answer_ok ∷ Open 2 5 ⇒ answer_ok ∷ Open 3 5 ⇒ answer_ok
    ∷ Claim 1 0 S ⇒ answer_granted ∷ Claim 2 0 IX ⇒ answer_waits
    ∷ Claim 3 0 IS ⇒ answer_granted ∷ [])

-- the first calls of a cycle of three dispatches, of weights 9, 3 and 5
abbrev pub three_and : List Line → List Line
three_and ls =
    Open 1 9 ⇒ answer_ok ∷ Open 2 3 ⇒ answer_ok ∷ Open 3 5 ⇒ answer_ok
    ∷ Claim 1 10 move ⇒ answer_granted ∷ Claim 2 11 move ⇒ answer_granted
    ∷ Claim 3 12 move ⇒ answer_granted ∷ Claim 1 11 move ⇒ answer_waits
    ∷ Claim 2 12 move ⇒ answer_waits ∷ ls

-- the lightest of three is recalled as the cycle closes
abbrev pub lightest_of_three : Example
lightest_of_three =
    played Continuous two_uses lightest
    (three_and
    (waking (recalling (Claim 3 10 move ⇒ answer_waits) (2 at 12 ∷ [])) (1 at 11 ∷ []) ∷ []))

-- the same in a periodic book: the cycle stands until a sweep
abbrev pub periodic_of_three : Example
periodic_of_three =
    played Periodic two_uses lightest
    (three_and
    (Claim 3 10 move ⇒ answer_waits
    ∷ waking (recalling (Sweep ⇒ answer_ok) (2 at 12 ∷ [])) (1 at 11 ∷ []) ∷ []))

-- every blocker counts: 3 waits behind both lookers, and the cycle goes through the second
abbrev pub second_blocker : Example
second_blocker =
    played Continuous two_uses newest
    (Open 1 5 ⇒ answer_ok ∷ Open 2 5 ⇒ answer_ok ∷ Open 3 5 ⇒ answer_ok
    ∷ Claim 1 7 look ⇒ answer_granted ∷ Claim 2 7 look ⇒ answer_granted
    ∷ Claim 3 8 move ⇒ answer_granted ∷ Claim 3 7 move ⇒ answer_waits
    ∷ recalling (Claim 2 8 move ⇒ answer_granted) (3 at 7 ∷ []) ∷ [])

-- the calls up to two cycles, of 1 and 2 and of 3 and 4
abbrev pub up_to_two_cycles : List Line
up_to_two_cycles =
    Open 1 5 ⇒ answer_ok ∷ Open 2 5 ⇒ answer_ok ∷ Open 3 5 ⇒ answer_ok ∷ Open 4 5 ⇒ answer_ok
    ∷ Claim 1 10 move ⇒ answer_granted ∷ Claim 2 11 move ⇒ answer_granted
    ∷ Claim 3 12 move ⇒ answer_granted ∷ Claim 4 13 move ⇒ answer_granted
    ∷ Claim 1 11 move ⇒ answer_waits ∷ Claim 2 10 move ⇒ answer_waits
    ∷ Claim 3 13 move ⇒ answer_waits ∷ Claim 4 12 move ⇒ answer_waits ∷ []

-- a sweep then, and what comes after it
abbrev pub two_cycles_and : List Line → Example
two_cycles_and ls =
    played Periodic two_uses newest
    (up_to_two_cycles
    ++ waking (recalling (Sweep ⇒ answer_ok) (4 at 12 ∷ 2 at 10 ∷ [])) (1 at 11 ∷ 3 at 13 ∷ [])
    ∷ ls)

-- after each recall one looks again: with 4 gone, 3 is on no cycle, and 2 is the next
abbrev pub two_cycles : Example
two_cycles = two_cycles_and []

-- a wrong section is refused before an unknown use
abbrev pub order_of_refusals : Example
order_of_refusals =
    played Continuous two_uses newest
    (Open 1 5 ⇒ answer_ok ∷ Claim 1 1024 9 ⇒ answer_refused 2 ∷ [])

-- a weight that is too high is refused before the dispatch's state is looked at
abbrev pub order_at_opening : Example
order_at_opening =
    played Continuous two_uses newest
    (Open 1 5 ⇒ answer_ok ∷ Open 1 1001 ⇒ answer_refused 4
    ∷ Open 1 1000 ⇒ answer_refused 6 ∷ [])

-- a recalled dispatch is refused until it is acknowledged, once, and may then be opened again
abbrev pub recalled_and_again : Example
recalled_and_again =
    double_upgrade_and
    (Open 2 1001 ⇒ answer_refused 4 ∷ Open 2 5 ⇒ answer_refused 5
    ∷ Acknowledge 2 ⇒ answer_ok ∷ Acknowledge 2 ⇒ answer_refused 10
    ∷ Open 2 5 ⇒ answer_ok ∷ [])

-- an order of another line: who holds at most one claim goes before who holds more
abbrev pub one_or_more : Order
one_or_more a b = nat_le a.held 1 || nat_lt 1 b.held

-- claims that wait are not held: 1 holds one claim, 2 holds two, and both wait
abbrev pub held_claims_only : Example
held_claims_only =
    played Continuous two_uses one_or_more
    (Open 1 5 ⇒ answer_ok ∷ Open 2 5 ⇒ answer_ok
    ∷ Claim 1 10 move ⇒ answer_granted ∷ Claim 2 11 move ⇒ answer_granted
    ∷ Claim 2 12 move ⇒ answer_granted ∷ Claim 1 11 move ⇒ answer_waits
    ∷ recalling (Claim 2 10 move ⇒ answer_granted) (1 at 11 ∷ []) ∷ [])

-- up 0 to 5 and down 4 to 9 conflict, up 0 to 5 and down 5 to 9 do not, up 5 to 5 is unknown
abbrev pub span_questions : Example
span_questions =
    asked
    ((spans.conflict 65541 132105, true) ∷ (spans.conflict 65541 132361, false)
    ∷ (spans.known 66821, false) ∷ [])

-- the first calls of a cycle of three dispatches, of weights 9, 3 and 3, which hold one, two and
-- three claims
abbrev pub three_holding_and : List Line → List Line
three_holding_and ls =
    Open 1 9 ⇒ answer_ok ∷ Open 2 3 ⇒ answer_ok ∷ Open 3 3 ⇒ answer_ok
    ∷ Claim 1 10 move ⇒ answer_granted ∷ Claim 2 11 move ⇒ answer_granted
    ∷ Claim 2 20 move ⇒ answer_granted ∷ Claim 3 12 move ⇒ answer_granted
    ∷ Claim 3 21 move ⇒ answer_granted ∷ Claim 3 22 move ⇒ answer_granted
    ∷ Claim 1 11 move ⇒ answer_waits ∷ Claim 2 12 move ⇒ answer_waits ∷ ls

-- who holds the fewest claims is recalled
abbrev pub fewest_of_three : Example
fewest_of_three =
    played Continuous two_uses fewest
    (three_holding_and (recalling (Claim 3 10 move ⇒ answer_granted) (1 at 11 ∷ []) ∷ []))

-- of a pair of orders the second counts where the first ties: of the two lightest, who holds fewer
-- is recalled
abbrev pub fewest_of_the_lightest : Example
fewest_of_the_lightest =
    played Continuous two_uses (pair lightest fewest)
    (three_holding_and
    (waking (recalling (Claim 3 10 move ⇒ answer_waits) (2 at 12 ∷ [])) (1 at 11 ∷ []) ∷ []))

-- who waits can neither claim nor close, but may be withdrawn, which frees the number at once
abbrev pub withdrawn : Example
withdrawn =
    played Continuous two_uses newest
    (Open 1 5 ⇒ answer_ok ∷ Open 2 5 ⇒ answer_ok
    ∷ Claim 1 7 move ⇒ answer_granted ∷ Claim 2 7 move ⇒ answer_waits
    ∷ Claim 2 8 look ⇒ answer_refused 8 ∷ Close 2 ⇒ answer_refused 8
    ∷ Withdraw 2 ⇒ answer_ok ∷ Withdraw 2 ⇒ answer_refused 7
    ∷ Open 2 5 ⇒ answer_ok ∷ Claim 2 7 look ⇒ answer_waits
    ∷ waking (Withdraw 1 ⇒ answer_ok) (2 at 7 ∷ []) ∷ Close 2 ⇒ answer_ok ∷ [])

-- the numbers that are too high, and those that are not
abbrev pub limits : Example
limits =
    played Continuous two_uses newest
    (Open 64 1001 ⇒ answer_refused 1 ∷ Open 63 1001 ⇒ answer_refused 4
    ∷ Open 63 1000 ⇒ answer_ok ∷ Claim 63 1024 move ⇒ answer_refused 2
    ∷ Claim 63 1023 2 ⇒ answer_refused 3 ∷ Claim 63 1023 move ⇒ answer_granted
    ∷ Close 62 ⇒ answer_refused 7 ∷ [])

-- 1 looks, 2 wants to move there and waits, 3 looks behind it and waits; 4 was recalled after 5
-- and it claimed each other's sections
abbrev pub queue : State
queue =
    after two_uses newest (new Continuous)
    (Open 1 5 ∷ Open 2 5 ∷ Open 3 5 ∷ Claim 1 7 look ∷ Claim 2 7 move ∷ Claim 3 7 look
    ∷ Open 5 5 ∷ Open 4 5 ∷ Claim 5 8 move ∷ Claim 4 9 move ∷ Claim 5 9 move ∷ Claim 4 8 move ∷ [])

-- how the dispatches of the queue stand
abbrev pub standing_in_the_queue : Example
standing_in_the_queue =
    stood
    ((condition_asked two_uses queue 1, Ok (Running, None))
    ∷ (condition_asked two_uses queue 2, Ok (Waiting, Some 7))
    ∷ (condition_asked two_uses queue 3, Ok (Waiting, Some 7))
    ∷ (condition_asked two_uses queue 4, Ok (Recalled, None))
    ∷ (condition_asked two_uses queue 5, Ok (Running, None))
    ∷ (condition_asked two_uses queue 6, Ok (Free, None))
    ∷ (condition_asked two_uses queue 64, Err 1) ∷ [])

-- who waits for whom in the queue, and who holds section 7
abbrev pub waiting_in_the_queue : Example
waiting_in_the_queue =
    asked
    ((waited_for two_uses queue 2 1, true) ∷ (waited_for two_uses queue 3 2, true)
    ∷ (waited_for two_uses queue 3 1, false) ∷ (waited_for two_uses queue 1 2, false)
    ∷ (waited_for two_uses queue 64 1, false) ∷ (holders two_uses queue 7 1, true)
    ∷ (holders two_uses queue 7 2, false) ∷ (holders two_uses queue 7 3, false)
    ∷ (holders two_uses queue 8 5, true) ∷ (holders two_uses queue 1024 1, false) ∷ [])

-- a report has the recalled first, then the woken, and then unused places
abbrev pub full_report : Example
full_report =
    reported
    ((
      report_of (4 at 12 ∷ 2 at 10 ∷ []) (1 at 11 ∷ []),
      record {
        recalled = 2;
        woken = 1;
        dispatches = 4 ∷ 2 ∷ 1 ∷ replicate 61 255;
        sections = 12 ∷ 10 ∷ 11 ∷ replicate 61 65535;
      },
    ) ∷ [])

-- which of the two uses conflict
abbrev pub two_conflicts : Example
two_conflicts = charted two_uses.conflict (look ∷ move ∷ []) (codes ".x" ∷ codes "xx" ∷ [])

-- which of the two uses covers which
abbrev pub two_covers : Example
two_covers = charted two_uses.cover (look ∷ move ∷ []) (codes "x." ∷ codes "xx" ∷ [])

-- which of the five uses conflict
abbrev pub five_conflicts : Example
five_conflicts =
    charted five_uses.conflict (IS ∷ IX ∷ S ∷ SIX ∷ X ∷ [])
    (codes "....x" ∷ codes "..xxx" ∷ codes ".x.xx" ∷ codes ".xxxx" ∷ codes "xxxxx" ∷ [])

-- which of the five uses covers which
abbrev pub five_covers : Example
five_covers =
    charted five_uses.cover (IS ∷ IX ∷ S ∷ SIX ∷ X ∷ [])
    (codes "x...." ∷ codes "xx..." ∷ codes "x.x.." ∷ codes "xxxx." ∷ codes "xxxxx" ∷ [])

-- the codes of up 0 to 5, up 1 to 4, down 1 to 4 and works 0 to 5
abbrev pub some_spans : List ℕ
some_spans = 65541 ∷ 65796 ∷ 131332 ∷ 196613 ∷ []

-- which of these spans conflict
abbrev pub span_conflicts : Example
span_conflicts =
    charted spans.conflict some_spans
    (codes "..xx" ∷ codes "..xx" ∷ codes "xx.x" ∷ codes "xxxx" ∷ [])

-- which of these spans covers which
abbrev pub span_covers : Example
span_covers =
    charted spans.cover some_spans
    (codes "xx.." ∷ codes ".x.." ∷ codes "..x." ∷ codes "xxxx" ∷ [])

-- who was recalled can do nothing before it is acknowledged; its numbers are checked before that
abbrev pub refused_while_recalled : Example
refused_while_recalled =
    double_upgrade_and
    (Claim 2 1024 move ⇒ answer_refused 2 ∷ Claim 2 8 9 ⇒ answer_refused 3
    ∷ Claim 2 8 look ⇒ answer_refused 5 ∷ Close 2 ⇒ answer_refused 5
    ∷ Withdraw 2 ⇒ answer_refused 5 ∷ Acknowledge 2 ⇒ answer_ok ∷ [])

-- the numbers are checked before how the dispatch stands: 2 waits, 3 is free, 64 is too high; and
-- who waits is refused also what it holds already
abbrev pub order_of_checks : Example
order_of_checks =
    played Continuous two_uses newest
    (Open 1 5 ⇒ answer_ok ∷ Open 2 5 ⇒ answer_ok
    ∷ Claim 1 10 move ⇒ answer_granted ∷ Claim 2 11 move ⇒ answer_granted
    ∷ Claim 2 10 look ⇒ answer_waits
    ∷ Claim 2 1024 look ⇒ answer_refused 2 ∷ Claim 2 11 9 ⇒ answer_refused 3
    ∷ Claim 2 11 look ⇒ answer_refused 8
    ∷ Claim 3 1024 look ⇒ answer_refused 2 ∷ Claim 3 11 9 ⇒ answer_refused 3
    ∷ Claim 3 11 look ⇒ answer_refused 7
    ∷ Claim 64 1024 9 ⇒ answer_refused 1 ∷ Close 64 ⇒ answer_refused 1
    ∷ Withdraw 64 ⇒ answer_refused 1 ∷ Acknowledge 64 ⇒ answer_refused 1 ∷ [])

-- of two recalled one is acknowledged, and the other stays recalled; who is open cannot be
abbrev pub one_acknowledged : Example
one_acknowledged =
    two_cycles_and
    (Acknowledge 1 ⇒ answer_refused 10 ∷ Acknowledge 4 ⇒ answer_ok
    ∷ Open 2 5 ⇒ answer_refused 5 ∷ Open 4 5 ⇒ answer_ok
    ∷ Acknowledge 2 ⇒ answer_ok ∷ Open 2 5 ⇒ answer_ok ∷ [])

-- the woken are named as they were opened, not by number and not as they claimed
abbrev pub woken_as_opened : Example
woken_as_opened =
    played Continuous two_uses newest
    (Open 1 5 ⇒ answer_ok ∷ Open 3 5 ⇒ answer_ok
    ∷ Open 4 5 ⇒ answer_ok ∷ Open 2 5 ⇒ answer_ok
    ∷ Claim 1 7 move ⇒ answer_granted ∷ Claim 1 8 move ⇒ answer_granted
    ∷ Claim 4 8 look ⇒ answer_waits ∷ Claim 2 7 look ⇒ answer_waits
    ∷ Claim 3 7 look ⇒ answer_waits
    ∷ waking (Close 1 ⇒ answer_ok) (3 at 7 ∷ 4 at 8 ∷ 2 at 7 ∷ []) ∷ [])

-- the first calls of a cycle of 3, 1 and 2, opened in this order with these weights; some further
-- claims come before those on the cycle
abbrev pub cycle_and : ℕ → ℕ → ℕ → List Call → List Line → List Line
cycle_and a b c further ls =
    Open 3 a ⇒ answer_ok ∷ Open 1 b ⇒ answer_ok ∷ Open 2 c ⇒ answer_ok
    ∷ map (λ claim. claim ⇒ answer_granted) further
    ++ Claim 3 10 move ⇒ answer_granted ∷ Claim 1 11 move ⇒ answer_granted
    ∷ Claim 2 12 move ⇒ answer_granted ∷ Claim 3 11 move ⇒ answer_waits
    ∷ Claim 1 12 move ⇒ answer_waits ∷ ls

-- the newest is recalled, which is neither the lightest nor the heaviest, and holds neither the
-- fewest claims nor the most
abbrev pub newest_of_three : Example
newest_of_three =
    played Continuous two_uses newest
    (cycle_and 3 9 5 (Claim 1 20 look ∷ Claim 1 21 look ∷ Claim 2 22 look ∷ [])
    (waking (recalling (Claim 2 10 move ⇒ answer_recalled) (2 at 10 ∷ [])) (1 at 12 ∷ []) ∷ []))

-- the lightest is recalled, also where weights do not fit a byte
abbrev pub lightest_of_the_heavy : Example
lightest_of_the_heavy =
    played Continuous two_uses lightest
    (cycle_and 600 400 1000 (Claim 1 20 look ∷ Claim 2 21 look ∷ Claim 2 22 look ∷ [])
    (waking (recalling (Claim 2 10 move ⇒ answer_waits) (1 at 12 ∷ [])) (3 at 11 ∷ []) ∷ []))

-- who holds the fewest claims is recalled; two claims on one section count as two
abbrev pub fewest_of_many : Example
fewest_of_many =
    played Continuous two_uses fewest
    (cycle_and 3 5 9
    (Claim 3 20 look ∷ Claim 3 21 look ∷ Claim 3 22 look ∷ Claim 1 23 look
    ∷ Claim 2 12 look ∷ Claim 2 24 look ∷ [])
    (waking (recalling (Claim 2 10 move ⇒ answer_waits) (1 at 12 ∷ [])) (3 at 11 ∷ []) ∷ []))

-- where the order ties, who was opened last is recalled
abbrev pub last_of_the_tied : Example
last_of_the_tied =
    played Continuous two_uses lightest
    (cycle_and 5 5 5 []
    (waking (recalling (Claim 2 10 move ⇒ answer_recalled) (2 at 10 ∷ [])) (1 at 12 ∷ []) ∷ []))

-- who waits for a cycle and is not on it is not recalled: 3 waits for 1
abbrev pub behind_a_cycle : Example
behind_a_cycle =
    played Continuous two_uses newest
    (Open 1 5 ⇒ answer_ok ∷ Open 2 5 ⇒ answer_ok ∷ Open 3 5 ⇒ answer_ok
    ∷ Claim 1 10 move ⇒ answer_granted ∷ Claim 1 12 move ⇒ answer_granted
    ∷ Claim 2 11 move ⇒ answer_granted ∷ Claim 3 12 move ⇒ answer_waits
    ∷ Claim 1 11 move ⇒ answer_waits
    ∷ waking (recalling (Claim 2 10 move ⇒ answer_recalled) (2 at 10 ∷ [])) (1 at 11 ∷ []) ∷ [])

-- a claim closes two cycles, and the claimant is recalled after another
abbrev pub recalled_after_another : Example
recalled_after_another =
    played Continuous two_uses newest
    (Open 1 5 ⇒ answer_ok ∷ Open 2 5 ⇒ answer_ok ∷ Open 3 5 ⇒ answer_ok
    ∷ Claim 1 7 look ⇒ answer_granted ∷ Claim 3 7 look ⇒ answer_granted
    ∷ Claim 2 10 move ⇒ answer_granted ∷ Claim 1 10 move ⇒ answer_waits
    ∷ Claim 3 10 move ⇒ answer_waits
    ∷ waking (recalling (Claim 2 7 move ⇒ answer_recalled) (3 at 10 ∷ 2 at 7 ∷ [])) (1 at 10 ∷ [])
    ∷ [])

-- who closed is free: it holds nothing, need not be acknowledged, and may be opened again
abbrev pub closed_and_again : Example
closed_and_again =
    played Continuous two_uses newest
    (Open 1 5 ⇒ answer_ok ∷ Claim 1 10 move ⇒ answer_granted ∷ Close 1 ⇒ answer_ok
    ∷ Close 1 ⇒ answer_refused 7 ∷ Claim 1 10 move ⇒ answer_refused 7
    ∷ Acknowledge 1 ⇒ answer_refused 10 ∷ Open 1 5 ⇒ answer_ok
    ∷ Claim 1 10 move ⇒ answer_granted ∷ [])

-- who holds which section in the queue, and who does not wait for whom
abbrev pub holding_in_the_queue : Example
holding_in_the_queue =
    asked
    ((holders two_uses queue 7 5, false) ∷ (holders two_uses queue 8 1, false)
    ∷ (holders two_uses queue 9 5, true) ∷ (holders two_uses queue 9 4, false)
    ∷ (waited_for two_uses queue 2 3, false) ∷ (waited_for two_uses queue 2 5, false)
    ∷ (waited_for two_uses queue 5 4, false) ∷ [])

-- up 0 to 64, up 0 to 255 and works 254 to 255 are known; a code with direction 0 or 4, or of a
-- span that ends before it begins, is unknown
abbrev pub span_codes : Example
span_codes =
    asked
    ((spans.known 65600, true) ∷ (spans.known 65791, true) ∷ (spans.known 261887, true)
    ∷ (spans.known 5, false) ∷ (spans.known 262149, false) ∷ (spans.known 66816, false) ∷ [])

-- the codes of up 0 to 255, up 0 to 254, up 254 to 255 and down 254 to 255
abbrev pub spans_at_the_end : List ℕ
spans_at_the_end = 65791 ∷ 65790 ∷ 130815 ∷ 196351 ∷ []

-- which of these spans conflict
abbrev pub conflicts_at_the_end : Example
conflicts_at_the_end =
    charted spans.conflict spans_at_the_end
    (codes "...x" ∷ codes "...." ∷ codes "...x" ∷ codes "x.x." ∷ [])

-- which of these spans covers which
abbrev pub covers_at_the_end : Example
covers_at_the_end =
    charted spans.cover spans_at_the_end
    (codes "xxx." ∷ codes ".x.." ∷ codes "..x." ∷ codes "...x" ∷ [])

-- the text of a report names the recalled, and then the woken
abbrev pub printed_report : Example
printed_report =
    printed
    ((
      report_text (report_of (4 at 12 ∷ 2 at 10 ∷ []) (1 at 11 ∷ [])),
      codes "recall 4 12\nrecall 2 10\nwake 1 11\n",
    ) ∷ [])

-- dispatch 1 looks at so many sections, from 0 on
abbrev pub with_looks : ℕ → State
with_looks count = record {
  opened = record { dispatch = 1; weight = 5 } ∷ [];
  recalled = λ d. false;
  claims = map (λ section. claim_of 1 section look) (range_with_len 0 count);
  detection = Continuous;
}

-- the answer where 1 looks at so many sections and the dispatch claims to look at this one
abbrev pub look_answer : ℕ → ℕ → ℕ → ModelAnswer
look_answer count d section =
    (step two_uses newest (with_looks count) (Claim d section look)).answer

-- where 512 claims stand, a claim that is covered is answered so, and any other is refused, by 9
-- where nothing else refuses it; where 511 stand there is room for one
abbrev pub full_book : Example
full_book =
    answered
    ((look_answer 512 1 3, answer_covered) ∷ (look_answer 512 1 600, answer_refused 9)
    ∷ (look_answer 512 2 600, answer_refused 7) ∷ (look_answer 511 1 600, answer_granted) ∷ [])

-- the state in which the two cycles stand
abbrev pub two_cycles_stand : State
two_cycles_stand = after two_uses newest (new Periodic) (map (λ l. l.made) up_to_two_cycles)

-- the report of a call names whom it recalls, and then whom it wakes
abbrev pub report_of_a_sweep : Example
report_of_a_sweep =
    reported
    ((
      report (step two_uses newest two_cycles_stand Sweep),
      report_of (4 at 12 ∷ 2 at 10 ∷ []) (1 at 11 ∷ 3 at 13 ∷ []),
    ) ∷ [])

-- which codes are uses
abbrev pub known_uses : Example
known_uses =
    asked
    ((two_uses.known 0, true) ∷ (two_uses.known 1, true) ∷ (two_uses.known 2, false)
    ∷ (five_uses.known 0, true) ∷ (five_uses.known 4, true) ∷ (five_uses.known 5, false) ∷ [])

-- which claims of the queue wait and which are held
abbrev pub claims_in_the_queue : Example
claims_in_the_queue =
    asked
    ((claim_waits two_uses queue.claims 2 7 move, true)
    ∷ (claim_waits two_uses queue.claims 3 7 look, true)
    ∷ (claim_waits two_uses queue.claims 1 7 look, false)
    ∷ (claim_waits two_uses queue.claims 2 7 look, false)
    ∷ (claim_waits two_uses queue.claims 2 8 move, false)
    ∷ (waiting_claims two_uses queue.claims 2 == 1, true)
    ∷ (waiting_claims two_uses queue.claims 5 == 0, true)
    ∷ (held_count two_uses queue.claims 2 == 0, true)
    ∷ (held_count two_uses queue.claims 5 == 2, true) ∷ [])

-- who is open and who is free: 1 is open, 4 was recalled and is neither, 6 is free
abbrev pub open_or_free : Example
open_or_free =
    asked
    ((is_open queue 1, true) ∷ (is_open queue 4, false) ∷ (is_open queue 6, false)
    ∷ (is_free queue 1, false) ∷ (is_free queue 4, false) ∷ (is_free queue 6, true) ∷ [])

-- a call leaves alone what others have: 1 and 3 keep their claims, and 2 stays recalled
abbrev pub others_stay : Example
others_stay =
    two_cycles_and
    (Claim 1 10 look ⇒ answer_covered ∷ Claim 1 10 look ⇒ answer_covered
    ∷ Acknowledge 4 ⇒ answer_ok ∷ Claim 1 10 look ⇒ answer_covered
    ∷ Claim 3 12 look ⇒ answer_covered ∷ Withdraw 3 ⇒ answer_ok ∷ Open 2 5 ⇒ answer_refused 5
    ∷ Close 1 ⇒ answer_ok ∷ Open 2 5 ⇒ answer_refused 5 ∷ [])

-- weights stay, and the detection, when others are closed and recalled, and after a sweep
abbrev pub weights_stay : Example
weights_stay =
    played Continuous two_uses lightest
    (Open 4 1 ⇒ answer_ok ∷ Open 1 3 ⇒ answer_ok ∷ Open 3 5 ⇒ answer_ok ∷ Open 2 9 ⇒ answer_ok
    ∷ Close 4 ⇒ answer_ok ∷ Sweep ⇒ answer_ok
    ∷ Claim 1 10 move ⇒ answer_granted ∷ Claim 2 11 move ⇒ answer_granted
    ∷ Claim 3 12 move ⇒ answer_granted ∷ Claim 1 11 move ⇒ answer_waits
    ∷ recalling (Claim 2 10 move ⇒ answer_granted) (1 at 11 ∷ [])
    ∷ Claim 3 11 move ⇒ answer_waits
    ∷ recalling (Claim 2 12 move ⇒ answer_granted) (3 at 11 ∷ []) ∷ [])

-- every blocker counts: 3 waits behind both lookers, and the cycle goes through the first
abbrev pub first_blocker : Example
first_blocker =
    played Continuous two_uses newest
    (Open 1 5 ⇒ answer_ok ∷ Open 2 5 ⇒ answer_ok ∷ Open 3 5 ⇒ answer_ok
    ∷ Claim 1 7 look ⇒ answer_granted ∷ Claim 2 7 look ⇒ answer_granted
    ∷ Claim 3 8 move ⇒ answer_granted ∷ Claim 3 7 move ⇒ answer_waits
    ∷ recalling (Claim 1 8 move ⇒ answer_granted) (3 at 7 ∷ []) ∷ [])

-- a claim closes three cycles, and recalls the three that are newer
abbrev pub three_recalls : Example
three_recalls =
    played Continuous two_uses newest
    (Open 1 5 ⇒ answer_ok ∷ Open 2 5 ⇒ answer_ok ∷ Open 3 5 ⇒ answer_ok ∷ Open 4 5 ⇒ answer_ok
    ∷ Claim 1 10 move ⇒ answer_granted ∷ Claim 2 7 look ⇒ answer_granted
    ∷ Claim 3 7 look ⇒ answer_granted ∷ Claim 4 7 look ⇒ answer_granted
    ∷ Claim 2 10 look ⇒ answer_waits ∷ Claim 3 10 look ⇒ answer_waits
    ∷ Claim 4 10 look ⇒ answer_waits
    ∷ recalling (Claim 1 7 move ⇒ answer_granted) (4 at 10 ∷ 3 at 10 ∷ 2 at 10 ∷ []) ∷ [])

-- 63 moves on section 1023, and 62 waits to look there
abbrev pub last_numbers : State
last_numbers =
    after two_uses newest (new Continuous)
    (Open 63 5 ∷ Open 62 5 ∷ Claim 63 1023 move ∷ Claim 62 1023 look ∷ [])

-- the questions on the last numbers are answered
abbrev pub asked_at_the_limits : Example
asked_at_the_limits =
    asked
    ((holders two_uses last_numbers 1023 63, true)
    ∷ (holders two_uses last_numbers 1023 62, false)
    ∷ (waited_for two_uses last_numbers 62 63, true)
    ∷ (waited_for two_uses last_numbers 63 62, false) ∷ [])

-- how the last dispatches stand
abbrev pub standing_at_the_limits : Example
standing_at_the_limits =
    stood
    ((condition_asked two_uses last_numbers 63, Ok (Running, None))
    ∷ (condition_asked two_uses last_numbers 62, Ok (Waiting, Some 1023)) ∷ [])

-- a claim that is covered is not entered: 1 holds one claim and 2 holds two
abbrev pub covered_claims_hold_nothing : Example
covered_claims_hold_nothing =
    played Continuous two_uses fewest
    (Open 1 5 ⇒ answer_ok ∷ Open 2 5 ⇒ answer_ok
    ∷ Claim 1 10 move ⇒ answer_granted ∷ Claim 1 10 look ⇒ answer_covered
    ∷ Claim 1 10 look ⇒ answer_covered ∷ Claim 2 11 move ⇒ answer_granted
    ∷ Claim 2 12 move ⇒ answer_granted ∷ Claim 1 11 move ⇒ answer_waits
    ∷ recalling (Claim 2 10 move ⇒ answer_granted) (1 at 11 ∷ []) ∷ [])

-- the table of examples
abbrev pub examples : List Example
examples =
    sweep_of_a_new_book ∷ covered_claim ∷ two_stations ∷ double_upgrade ∷ behind_a_waiting_claim
    ∷ beside_a_waiting_claim ∷ lightest_of_three ∷ periodic_of_three ∷ second_blocker ∷ two_cycles
    ∷ order_of_refusals ∷ span_questions ∷ order_at_opening ∷ recalled_and_again
    ∷ held_claims_only ∷ fewest_of_three ∷ fewest_of_the_lightest ∷ withdrawn ∷ limits
    ∷ standing_in_the_queue ∷ waiting_in_the_queue ∷ full_report ∷ two_conflicts ∷ two_covers
    ∷ five_conflicts ∷ five_covers ∷ span_conflicts ∷ span_covers
    ∷ refused_while_recalled ∷ order_of_checks ∷ one_acknowledged ∷ woken_as_opened
    ∷ newest_of_three ∷ lightest_of_the_heavy ∷ fewest_of_many ∷ last_of_the_tied
    ∷ behind_a_cycle ∷ recalled_after_another ∷ closed_and_again ∷ holding_in_the_queue
    ∷ span_codes ∷ conflicts_at_the_end ∷ covers_at_the_end ∷ printed_report
    ∷ full_book ∷ report_of_a_sweep ∷ known_uses ∷ claims_in_the_queue
    ∷ open_or_free ∷ others_stay ∷ weights_stay
    ∷ first_blocker ∷ three_recalls ∷ asked_at_the_limits
    ∷ standing_at_the_limits ∷ covered_claims_hold_nothing ∷ []
