-- A reader that is served block by block.
use Rattle.std.proofs.Common.{◌≡◌, ℕ, ◌<◌, ◌≤◌, Bool, true, false, cond, ltb, eqb, leb, inl, inr, List, [], ◌∷◌, ◌++◌, None, Some, IfSome, Option, sym, refl, ap, ◌∙◌, subst, append_assoc, append-nil, arith, leb-true}
use Rattle.std.specs.Io.KnownBytes.{Appends, Consumes, IsAtEnd}
use Rattle.std.proofs.KnownBytes.{Consumes-nil, Consumes-trans, Appends-nil, Appends-trans}
use Rattle.std.proofs.lemmas.Bool.Decides.{nat_tests}
use Rattle.uses.specs.Relations.{Relations, UseLaws}
use Rattle.orders.specs.Laws.{OrderLaws}
use Rattle.model.specs.State.{State}
use Rattle.model.specs.Recalling.{Order}
use Rattle.model.specs.declared.state.Detection.{Detection}
use Rattle.book.specs.Book.{state_of}
use Rattle.session.specs.Inputs.{Lines, more, count, Cut, IsUnbroken, with_rest}
use Rattle.session.specs.Transcript.{Turn, is_read, is_past, AnswersLines, then_line}
use Rattle.session.specs.History.{Position, HasAnswered, HasRead, HasFinished, HasHistory}
use Rattle.session.specs.Stands.{position_of, Reads, ReadsAll, LosesAnswer, EndsLines, Finishes, WritesFront, AnswersAll, Serves, BreaksOff}
use Rattle.session.specs.declared.console.Console.{Console}
use Rattle.session.proofs.Cutting.{cut_more, cut_end}
use Rattle.session.proofs.Runs.{lawful_run}
use Rattle.session.proofs.Histories.{after_also}
use Rattle.session.proofs.Pieces.{reads_nothing, reads_on, finishes_on}

-- where line 1000000 is answered, so many lines have ended
many_answered : (answered n : ℕ) → answered ≡ cond (ltb n 1000000) n 1000000 → 1000000 ≤ answered → 1000000 ≤ n
many_answered answered n is many = grind (arith, nat_tests, is, many)

module _ (u : Relations) (o : Order) (detection : Detection) where
  -- a line that comes after line 1000000 prints nothing
  answered_past : (ended : Lines) (line text : List ℕ) (s : State) → 1000000 ≤ count ended → AnswersLines u o detection ended text s → AnswersLines u o detection (more ended line) text s
  answered_past ended line text s many h = subst (λ (t : List ℕ). AnswersLines u o detection (more ended line) t s) (append-nil text) (then_line h (is_past (omega arith)))

  -- lines more than 1000000 are counted as so many
  counted_past : (n m : ℕ) → 1000000 ≤ n → 1000000 ≤ m → cond (ltb n 1000000) n 1000000 ≡ cond (ltb m 1000000) m 1000000
  counted_past n m a b = grind (arith, nat_tests, a, b)

  -- more than 1000000 lines are counted with one that has only begun
  many_rest : (ended : Lines) (rest : List ℕ) → 1000000 ≤ count ended → 1000000 ≤ count (with_rest ended rest)
  many_rest ended [] many = many
  many_rest ended (b ∷ bs) many = omega arith

  -- a line that has only begun prints nothing then
  rest_past : (ended : Lines) (rest text : List ℕ) (s : State) → 1000000 ≤ count ended → AnswersLines u o detection ended text s → AnswersLines u o detection (with_rest ended rest) text s
  rest_past ended [] text s many h = h
  rest_past ended (b ∷ bs) text s many h = answered_past ended (b ∷ bs) text s many h

  -- a line that came after line 1000000 has printed nothing
  turn_past : (n : ℕ) (s t : State) (line now : List ℕ) → 1000000 < n → Turn u o n s line now t → (now ≡ []) × (t ≡ s)
  turn_past n s _ line _ late (is_read early _) = absurd (omega (arith, late, early))
  turn_past n s _ line _ late (is_past _) = (refl, refl)

  -- so what all lines printed, the lines before it did
  last_past : (ended : Lines) (line text : List ℕ) (s : State) → 1000000 ≤ count ended → AnswersLines u o detection (more ended line) text s → AnswersLines u o detection ended text s
  last_past ended line _ _ many (then_line {before = before} {now = now} {s = s} {t = t} h turn) =
      let past = turn_past _ s t line now (omega arith) turn in
      let same : before ≡ before ++ now = sym (ap (λ (xs : List ℕ). before ++ xs) past.0 ∙ append-nil before) in
      subst (λ (x : State). AnswersLines u o detection ended (before ++ now) x) (sym past.1) (subst (λ (xs : List ℕ). AnswersLines u o detection ended xs s) same h)

  -- with the line that has begun or without
  begun_past : (ended : Lines) (rest text : List ℕ) (s : State) → 1000000 ≤ count ended → AnswersLines u o detection (with_rest ended rest) text s → AnswersLines u o detection ended text s
  begun_past ended [] text s many h = h
  begun_past ended (b ∷ bs) text s many h = last_past ended (b ∷ bs) text s many h

  module _ (laws : UseLaws u) (lawful : OrderLaws o) (text : List ℕ) (p : Position) (last : p.answered ≡ 1000000) (none : p.line ≡ []) where
    -- so whatever comes after line 1000000, the console stands at the end of it
    pub finished_past : (bytes input : List ℕ) (ended : Lines) (rest : List ℕ) → 1000000 ≤ count ended → Cut input ended rest → AnswersLines u o detection ended text p.state → HasFinished u o detection (input ++ bytes) text p
    finished_past [] input ended rest many cut h =
        let all = rest_past ended rest text p.state many h in
        rw (append-nil input) (record {
          done = record {
            transcript = record { ended = ended; rest = rest; left = p.state; cut = cut; answered = all };
            runs = lawful_run u o detection laws lawful all;
          };
          left = refl;
          counted = last ∙ counted_past 1000000 (count (with_rest ended rest)) (omega arith) (many_rest ended rest many);
          none_begun = none;
        })
    finished_past (b ∷ bs) input ended rest many cut h =
        by_byte (eqb b 10) refl
        (finished_past bs (input ++ 10 ∷ []) (more ended rest) [] (omega arith) (cut_end input ended rest cut) (answered_past ended rest text p.state many h))
        (λ whole. finished_past bs (input ++ b ∷ []) ended (rest ++ b ∷ []) many (cut_more input ended rest (b ∷ []) cut whole) h)
      where
        there : (c : ℕ) → c ≡ b → HasFinished u o detection ((input ++ c ∷ []) ++ bs) text p → HasFinished u o detection (input ++ b ∷ bs) text p
        there c is t = subst (λ (xs : List ℕ). HasFinished u o detection xs text p) (append_assoc input (c ∷ []) bs ∙ ap (λ (x : ℕ). input ++ x ∷ bs) is) t

        by_byte : (t : Bool) → eqb b 10 ≡ t → HasFinished u o detection ((input ++ 10 ∷ []) ++ bs) text p → (IsUnbroken (b ∷ []) → HasFinished u o detection ((input ++ b ∷ []) ++ bs) text p) → HasFinished u o detection (input ++ b ∷ bs) text p
        by_byte true e ends goes = there 10 (grind (arith, nat_tests, e)) ends
        by_byte false e ends goes = there b refl (goes (grind (arith, nat_tests, e)))

-- what is consumed of known bytes are the first of them
known_front : (had left : Option (List ℕ)) (bytes others : List ℕ) → Consumes had left (bytes ++ others) → IfSome had (λ xs. (rest : List ℕ) × (xs ≡ bytes ++ rest))
known_front None left bytes others h = tt
known_front (Some xs) None bytes others h = absurd h
known_front (Some xs) (Some rest) bytes others h = (others ++ rest, h ∙ append_assoc bytes others rest)

-- a reader at its end gave all that it had
known_all : (had left : Option (List ℕ)) (bytes : List ℕ) → Consumes had left bytes → IsAtEnd left → IfSome had (λ xs. xs ≡ bytes)
known_all None left bytes h ends = tt
known_all (Some xs) None bytes h ends = absurd h
known_all (Some xs) (Some rest) bytes h ends = h ∙ (ap (λ (ys : List ℕ). bytes ++ ys) ends ∙ append-nil bytes)

-- the bytes that are left, where they are known
abbrev unread : Option (List ℕ) → List ℕ
unread None = []
unread (Some rest) = rest

known_whole : (had left : Option (List ℕ)) (bytes : List ℕ) → Consumes had left bytes → IfSome had (λ xs. xs ≡ bytes ++ unread left)
known_whole None left bytes h = tt
known_whole (Some xs) None bytes h = absurd h
known_whole (Some xs) (Some rest) bytes h = h

-- bytes of what a reader had were read, and the text was given to a writer for them; no answer is left over, and the policy stays
pub record Served {T O : Type 0} {tm om : _} (m : T → Relations) (p : O → Order) (first now : Console T O tm om) (had left was is : Option (List ℕ)) (answers : List ℕ) : Type 0 where
  pub bytes : List ℕ
  pub text : List ℕ
  pub consumed : Consumes had left bytes
  pub appended : Appends was is text
  pub policy : now.book.policy ≡ first.book.policy
  pub reads : Reads m p first now bytes text
  pub none_over : answers ≡ []

module _ {T O : Type 0} {tm om : _} (m : T → Relations) (p : O → Order) where
  -- nothing was read yet
  pub served_nothing : (c : Console T O tm om) (had was : Option (List ℕ)) (answers : List ℕ) → HasHistory (m c.book.policy.table) (p c.book.policy.order) (position_of c) → answers ≡ [] → Served m p c c had had was was answers
  served_nothing c had was answers some none = record {
    bytes = [];
    text = [];
    consumed = Consumes-nil had;
    appended = Appends-nil was;
    policy = refl;
    reads = reads_nothing m p c some;
    none_over = none;
  }

  -- serving broke off where the console had read some bytes
  broken_off : (first now : Console T O tm om) (had left was is : Option (List ℕ)) (bytes others text lost : List ℕ) → Consumes had left (bytes ++ others) → Appends was is text → Reads m p first now bytes (text ++ lost) → BreaksOff m p first now had was is
  broken_off first now had left was is bytes others text lost consumed written read = record {
    text = text;
    lost = lost;
    written = written;
    answered = inl (record { bytes = bytes; first = known_front had left bytes others consumed; read = read });
  }

  module _ (first now : Console T O tm om) (had left was is : Option (List ℕ)) (answers : List ℕ) (r : Served m p first now had left was is answers) where
    -- nothing more could be read
    pub read_failed : BreaksOff m p first now had was is
    read_failed = broken_off first now had left was is r.bytes [] r.text [] (rw (append-nil r.bytes) r.consumed) r.appended (rw (append-nil r.text) r.reads)

    module _ (next : Console T O tm om) (left' : Option (List ℕ)) (block : List ℕ) (takes : Consumes left left' block) where
      -- what was consumed so far, and the block
      consumed_more : Consumes had left' (r.bytes ++ block)
      consumed_more = Consumes-trans had left left' r.bytes block r.consumed takes

      -- there was no memory for an answer
      pub answer_lost : (all : List ℕ) → LosesAnswer m p now next block answers all → BreaksOff m p first next had was is
      answer_lost all l =
          broken_off first next had left' was is (r.bytes ++ l.bytes) l.rest r.text (l.text ++ l.lost)
          (subst (Consumes had left') (ap (λ (xs : List ℕ). r.bytes ++ xs) l.front ∙ sym (append_assoc r.bytes l.bytes l.rest)) consumed_more)
          r.appended (reads_on m p first now next r.bytes l.bytes r.text (l.text ++ l.lost) r.policy r.reads l.read)

      module _ (all : List ℕ) (read : ReadsAll m p now next block answers all) where
        -- the answers are what was printed for the block
        answers_are : all ≡ read.0
        answers_are = read.1 ∙ ap (λ (xs : List ℕ). xs ++ read.0) r.none_over

        -- the answers were written in part
        pub write_failed : (is' : Option (List ℕ)) → WritesFront is is' all → BreaksOff m p first next had was is'
        write_failed is' w =
            broken_off first next had left' was is' (r.bytes ++ block) [] (r.text ++ w.0) w.1
            (rw (append-nil (r.bytes ++ block)) consumed_more)
            (Appends-trans was is is' r.text w.0 r.appended w.3)
            (rw (append_assoc r.text w.0 w.1, ← w.2, answers_are) (reads_on m p first now next r.bytes block r.text read.0 r.policy r.reads read.2))

        -- a block more is served
        pub served_more : (is' : Option (List ℕ)) (after : List ℕ) → Appends is is' all → next.book.policy ≡ now.book.policy → after ≡ [] → Served m p first next had left' was is' after
        served_more is' after writes policy none = record {
          bytes = r.bytes ++ block;
          text = r.text ++ read.0;
          consumed = consumed_more;
          appended = Appends-trans was is is' r.text read.0 r.appended (subst (Appends is is') answers_are writes);
          policy = policy ∙ r.policy;
          reads = reads_on m p first now next r.bytes block r.text read.0 r.policy r.reads read.2;
          none_over = none;
        }

  module _ (laws : (x : T) → UseLaws (m x)) (lawful : (x : O) → OrderLaws (p x)) (first now next : Console T O tm om) (had left was is is' : Option (List ℕ)) (answers fin : List ℕ) (r : Served m p first now had left was is answers) where
    -- the reader is at its end
    pub answered_at_end : IsAtEnd left → Finishes m p now next [] fin → AnswersAll m p first next had (r.text ++ fin)
    answered_at_end ends finishes = record {
      bytes = r.bytes;
      whole = known_all had left r.bytes r.consumed ends;
      finished = rw (append-nil r.bytes) at (finishes_on m p first now next r.bytes [] r.text fin r.policy r.reads finishes);
    }

    -- reading has stopped
    pub answered_at_stop : (stopped : Bool) → stopped ≡ leb 1000000 now.answered → stopped ≡ true → EndsLines m p now next fin → AnswersAll m p first next had (r.text ++ fin)
    answered_at_stop stopped tells is_true ends = record {
      bytes = r.bytes ++ unread left;
      whole = known_whole had left r.bytes r.consumed;
      finished = after_also m p first _ _ r.reads (λ detection input printed _ read. stopped_after detection input printed read);
    }
      where
        u : Relations
        u = m first.book.policy.table

        o : Order
        o = p first.book.policy.order

        ends_first : (detection : Detection) (ended : Lines) (rest text : List ℕ) → HasAnswered u o detection ended rest text (position_of now) → HasAnswered u o detection (with_rest ended rest) [] (text ++ fin) (position_of next)
        ends_first = rw (← r.policy) ends

        stopped_after : (detection : Detection) (input printed : List ℕ) → HasRead u o detection (input ++ r.bytes) (printed ++ r.text) (position_of now) → HasFinished u o detection (input ++ (r.bytes ++ unread left)) (printed ++ (r.text ++ fin)) (position_of next)
        stopped_after detection input printed read =
            let many = many_answered now.answered (count read.ended) read.stands.counted (leb-true 1000000 now.answered (sym tells ∙ is_true)) in
            let stands = ends_first detection read.ended read.rest (printed ++ r.text) read.stands in
            let last : next.answered ≡ 1000000 = stands.counted ∙ counted_past u o detection (count (with_rest read.ended read.rest)) 1000000 (many_rest u o detection read.ended read.rest many) (omega arith) in
            rw (← append_assoc input r.bytes (unread left), ← append_assoc printed r.text fin)
            (finished_past u o detection (laws first.book.policy.table) (lawful first.book.policy.order) ((printed ++ r.text) ++ fin) (position_of next) last stands.kept (unread left) (input ++ r.bytes) read.ended read.rest many read.cut
            (begun_past u o detection read.ended read.rest ((printed ++ r.text) ++ fin) (state_of next.book) many stands.answered))

    -- the last answer was written
    pub served : AnswersAll m p first next had (r.text ++ fin) → Appends is is' fin → Serves m p first next had was is'
    served all writes = record { text = r.text ++ fin; written = Appends-trans was is is' r.text fin r.appended writes; answered = all }

    -- the last answer was written in part
    pub end_failed : AnswersAll m p first next had (r.text ++ fin) → WritesFront is is' fin → BreaksOff m p first next had was is'
    end_failed all w = record {
      text = r.text ++ w.0;
      lost = w.1;
      written = Appends-trans was is is' r.text w.0 r.appended w.3;
      answered = inr (rw (append_assoc r.text w.0 w.1, ← w.2) all);
    }
