-- What is printed for the first bytes of an input is the front of its transcript.
use Rattle.std.proofs.Common.{◌≡◌, ℕ, Bool, true, false, eqb, ◌⊎◌, inl, inr, Some, List, [], ◌∷◌, ◌++◌, sym, refl, ap, ◌∙◌, subst, append_assoc, append-nil, arith}
use Rattle.std.proofs.lemmas.Bool.Decides.{nat_tests}
use Rattle.uses.specs.Relations.{Relations}
use Rattle.model.specs.State.{State}
use Rattle.model.specs.Recalling.{Order}
use Rattle.model.specs.declared.state.Detection.{Detection}
use Rattle.protocol.proofs.OneReading.{reading_unique}
use Rattle.session.specs.Inputs.{Lines, more, IsUnbroken, Cut, with_rest}
use Rattle.session.specs.Transcript.{AnswersLines, then_line, Transcript}
use Rattle.session.specs.Lawful.{LawfulTranscript}
use Rattle.session.specs.Stands.{position_of, table_of, order_of, StandsAfter, ReadsFirst, AnswersAll}
use Rattle.session.specs.Theorems.{PrintedIsFront, ServedIsTranscript, ServedIsFront}
use Rattle.session.specs.declared.console.Console.{Console}
use Rattle.session.proofs.Cutting.{cut_more, cut_end}
use Rattle.session.proofs.OneCut.{cut_once}
use Rattle.session.proofs.OneAnswer.{answered_once, transcript_unique}

-- the lines begin with these
data Begins (first : Lines) : Lines → Type 0 where
  same : Begins first first
  longer : {ls : Lines} {l : List ℕ} → Begins first ls → Begins first (more ls l)

-- an input that goes on is cut into lines that go on
record GoneOn (first : Lines) (input : List ℕ) : Type 0 where
  ended : Lines
  rest : List ℕ
  cut : Cut input ended rest
  begins : Begins first ended

gone_on : (first : Lines) (bytes input : List ℕ) (ended : Lines) (rest : List ℕ) → Cut input ended rest → Begins first ended → GoneOn first (input ++ bytes)
gone_on first [] input ended rest cut begins = rw (append-nil input) (record { ended = ended; rest = rest; cut = cut; begins = begins })
gone_on first (b ∷ bs) input ended rest cut begins =
    by_byte (eqb b 10) refl
    (gone_on first bs (input ++ 10 ∷ []) (more ended rest) [] (cut_end input ended rest cut) (longer begins))
    (λ whole. gone_on first bs (input ++ b ∷ []) ended (rest ++ b ∷ []) (cut_more input ended rest (b ∷ []) cut whole) begins)
  where
    there : (c : ℕ) → c ≡ b → GoneOn first ((input ++ c ∷ []) ++ bs) → GoneOn first (input ++ b ∷ bs)
    there c is t = subst (GoneOn first) (append_assoc input (c ∷ []) bs ∙ ap (λ (x : ℕ). input ++ x ∷ bs) is) t

    by_byte : (t : Bool) → eqb b 10 ≡ t → GoneOn first ((input ++ 10 ∷ []) ++ bs) → (IsUnbroken (b ∷ []) → GoneOn first ((input ++ b ∷ []) ++ bs)) → GoneOn first (input ++ b ∷ bs)
    by_byte true e ends goes = there 10 (grind (arith, nat_tests, e)) ends
    by_byte false e ends goes = there b refl (goes (grind (arith, nat_tests, e)))

-- the rest is a line more, or none
begins_rest : (first ended : Lines) (rest : List ℕ) → Begins first ended → Begins first (with_rest ended rest)
begins_rest first ended [] h = h
begins_rest first ended (b ∷ bs) h = longer h

-- what lines print goes on with what those print that follow
prints_on : (u : Relations) (o : Order) (detection : Detection) (first : Lines) (printed : List ℕ) (s : State) → AnswersLines u o detection first printed s → (ls : Lines) (all : List ℕ) (t : State) → Begins first ls → AnswersLines u o detection ls all t → (later : List ℕ) × (all ≡ printed ++ later)
prints_on u o detection first printed s h _ all t same a = ([], (answered_once reading_unique u o detection first all printed t s a h).0 ∙ sym (append-nil printed))
prints_on u o detection first printed s h _ _ t (longer {ls = ls} begins) (then_line {before = before} {now = now} {s = r} a turn) =
    let earlier : (later : List ℕ) × (before ≡ printed ++ later) = prints_on u o detection first printed s h ls before r begins a in
    (earlier.0 ++ now, ap (λ (xs : List ℕ). xs ++ now) earlier.1 ∙ append_assoc printed earlier.0 now)

pub printed_is_front : PrintedIsFront
printed_is_front u o detection input printed p h bytes all t =
    let gone = gone_on h.ended bytes input h.ended h.rest h.cut same in
    let cuts : (t.ended ≡ gone.ended) × (t.rest ≡ gone.rest) = cut_once (input ++ bytes) t.ended gone.ended t.rest gone.rest t.cut gone.cut in
    prints_on u o detection h.ended printed p.state h.stands.answered (with_rest t.ended t.rest) all t.left
    (begins_rest h.ended t.ended t.rest (subst (Begins h.ended) (sym cuts.0) gone.begins)) t.answered

module _ {T O : Type 0} {tm om : _} (m : T → Relations) (p : O → Order) (before after : Console T O tm om) where
  pub served_is_transcript : ServedIsTranscript m p before after
  served_is_transcript had was is serves detection input printed h =
      let all = serves.answered in
      (serves.text, serves.written, subst (λ (xs : List ℕ). LawfulTranscript (m (table_of before)) (p (order_of before)) detection (input ++ xs) (printed ++ serves.text)) (sym all.whole) (all.finished.every detection input printed h).done)

  -- all that should have been given begins with what was printed
  begins_printed : (had text lost : List ℕ) → ReadsFirst m p before after (Some had) (text ++ lost) ⊎ AnswersAll m p before after (Some had) (text ++ lost) → (detection : Detection) (input printed all : List ℕ) → StandsAfter m p before detection input printed before → Transcript (m (table_of before)) (p (order_of before)) detection (input ++ had) all → (later : List ℕ) × (all ≡ printed ++ (text ++ later))
  begins_printed had text lost (inl r) detection input printed all h t =
      let same : input ++ had ≡ (input ++ r.bytes) ++ r.first.0 = ap (λ (xs : List ℕ). input ++ xs) r.first.1 ∙ sym (append_assoc input r.bytes r.first.0) in
      let front : (later : List ℕ) × (all ≡ (printed ++ (text ++ lost)) ++ later) = printed_is_front (m (table_of before)) (p (order_of before)) detection (input ++ r.bytes) (printed ++ (text ++ lost)) (position_of after) (r.read.every detection input printed h) r.first.0 all
      (subst (λ (xs : List ℕ). Transcript (m (table_of before)) (p (order_of before)) detection xs all) same t) in
      (lost ++ front.0, front.1 ∙ (append_assoc printed (text ++ lost) front.0 ∙ ap (λ (xs : List ℕ). printed ++ xs) (append_assoc text lost front.0)))
  begins_printed had text lost (inr a) detection input printed all h t = (
    lost,
    transcript_unique (m (table_of before)) (p (order_of before)) detection (input ++ a.bytes) all (printed ++ (text ++ lost))
        (subst (λ (xs : List ℕ). Transcript (m (table_of before)) (p (order_of before)) detection (input ++ xs) all) a.whole t) (a.finished.every detection input printed h).done.transcript,
  )

  pub served_is_front : ServedIsFront m p before after
  served_is_front had was is breaks detection input printed all h t =
      let begins : (later : List ℕ) × (all ≡ printed ++ (breaks.text ++ later)) = begins_printed had breaks.text breaks.lost breaks.answered detection input printed all h t in
      (breaks.text, begins.0, breaks.written, begins.1)
