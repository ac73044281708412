-- What a console has gathered of a piece, before the line that has begun comes to its end.
use Rattle.std.proofs.Common.{◌≡◌, ℕ, ◌+◌, ◌<◌, Bool, true, false, not, cond, ltb, ◌==◌, Some, None, Option, unwrap_or, List, [], ◌∷◌, ◌++◌, length, get_or, take, sym, refl, ap, ◌∙◌, subst, append_assoc, append-nil, arith}
use Rattle.std.specs.List.{position_or_len}
use Rattle.std.proofs.lemmas.List.{length-take, take_more, nil_from_length}
use Rattle.std.proofs.lemmas.List.Sums.{prefix_len-le-length, passes_at_first, position_or_len_is}
use Rattle.memchr.specs.Find.{IsFirstByte, is_byte}
use Rattle.std.proofs.lemmas.Bool.Decides.{nat_tests}
use Rattle.uses.specs.Relations.{Relations, UseLaws}
use Rattle.orders.specs.Laws.{OrderLaws}
use Rattle.model.specs.Recalling.{Order}
use Rattle.model.specs.declared.state.Detection.{Detection}
use Rattle.book.specs.Tables.{state}
use Rattle.book.specs.declared.book.Book.{Book}
use Rattle.session.specs.Inputs.{Lines, more, IsUnbroken, Cut, with_rest, line_length}
use Rattle.session.specs.Transcript.{AnswersLines}
use Rattle.session.specs.History.{position_of_parts, HasAnswered, HasRead, HasHistory}
use Rattle.session.specs.Stands.{position_of, StandsAfter, AnswersLine, EndsLine, EndsLines, Finishes}
use Rattle.session.specs.declared.console.Console.{Console}
use Rattle.session.proofs.Cutting.{cut_more, cut_end}
use Rattle.session.proofs.Standing.{bytes_kept, kept_more, take_again}
use Rattle.session.proofs.Runs.{lawful_run}
use Rattle.session.proofs.Histories.{after_input}

-- byte 10
abbrev pub is_end : ℕ → Bool
is_end b = b == 10

-- no byte 10 stands before the first
pub unbroken_before : (piece : List ℕ) → IsUnbroken (take (position_or_len is_end piece) piece)
unbroken_before [] = refl
unbroken_before (b ∷ bs) = by_first (is_end b) refl (unbroken_before bs)
  where
    by_first : (t : Bool) → is_end b ≡ t → IsUnbroken (take (position_or_len is_end bs) bs) → IsUnbroken (take (cond (not (is_end b)) (1 + position_or_len is_end bs) 0) (b ∷ bs))
    by_first true e whole = rw e refl
    by_first false e whole = rw e (grind (arith, nat_tests, e, whole))

-- a test that is not true is false
not_true : (b : Bool) → ¬ (b ≡ true) → b ≡ false
not_true true h = absurd (h refl)
not_true false h = refl

-- the first byte 10 as a search finds it, or the length
pub first_end : (piece : List ℕ) (r : Option ℕ) → IsFirstByte (is_byte 10) piece r → unwrap_or r (length piece) ≡ position_or_len is_end piece
first_end piece None none =
    sym (position_or_len_is is_end piece (length piece) 0 (omega arith) (λ k inside. not_true _ (none k (omega arith) inside)) (λ past. absurd (let e : ⊥ = omega arith in e)))
first_end piece (Some k) found =
    let inside = found.0.high in
    sym (position_or_len_is is_end piece k 0 (omega arith) (λ i less. not_true _ (found.0.before i (omega arith) less)) (λ _. found.1))

-- the bytes that belong to the line are those before the first byte 10, and byte 10
line_length_is : (piece : List ℕ) → line_length piece ≡ cond (ltb (position_or_len is_end piece) (length piece)) (position_or_len is_end piece + 1) (position_or_len is_end piece)
line_length_is [] = refl
line_length_is (b ∷ bs) = let others = line_length_is bs in grind (arith, nat_tests, others)

-- a piece without byte 10 belongs to the line
pub all_of_line : (piece : List ℕ) (n : ℕ) → n ≡ position_or_len is_end piece → n ≡ length piece → n ≡ line_length piece
all_of_line piece n is all = let long = line_length_is piece in grind (arith, nat_tests, is, all, long)

-- in another the line ends with its first byte 10
pub line_ends : (piece : List ℕ) (n : ℕ) → n ≡ position_or_len is_end piece → (n ≡ length piece → ⊥) → (n < length piece) × (n + 1 ≡ line_length piece) × (get_or piece n 0 ≡ 10)
line_ends piece n is less =
    let long = line_length_is piece in
    let h = prefix_len-le-length (λ b. not (is_end b)) piece in
    let inside : n < length piece = omega arith in
    (inside, grind (arith, nat_tests, is, inside, long), let first = passes_at_first is_end piece 0 (omega arith) in rw is (grind (arith, nat_tests, first)))

module _ {T O : Type 0} {tm om : _} where
  -- the console keeps what it kept at first and the first bytes of the piece, which do not end the line; all else stays
  pub record Gathered (first now : Console T O tm om) (piece : List ℕ) (n : ℕ) : Type 0 where
    pub same_book : now.book ≡ first.book
    pub same_count : now.answered ≡ first.answered
    pub kept : now.line ≡ take 33 (first.line ++ take n piece)
    pub unbroken : IsUnbroken (take n piece)

  -- where the console stands that has gathered bytes
  stands_gathered : (u : Relations) (o : Order) (detection : Detection) (ended : Lines) (rest text : List ℕ) (first now : Console T O tm om) (piece : List ℕ) (n : ℕ) → Gathered first now piece n → HasAnswered u o detection ended rest text (position_of first) → HasAnswered u o detection ended (rest ++ take n piece) text (position_of now)
  stands_gathered u o detection ended rest text first now piece n g h =
      bytes_kept u o detection ended rest text (take n piece) (position_of first) (position_of now) h (ap (λ (b : Book T O tm om). state b.tables) g.same_book) g.same_count g.kept

  -- the piece has ended: its bytes were read, and nothing was printed
  pub read_gathered : (u : Relations) (o : Order) (detection : Detection) (input before text : List ℕ) (first now : Console T O tm om) (piece : List ℕ) (n : ℕ) → Gathered first now piece n → text ≡ [] → HasRead u o detection input before (position_of first) → HasRead u o detection (input ++ take n piece) (before ++ text) (position_of now)
  read_gathered u o detection input before text first now piece n g none h = record {
    ended = h.ended;
    rest = h.rest ++ take n piece;
    cut = cut_more input h.ended h.rest (take n piece) h.cut g.unbroken;
    stands = subst (λ (t : List ℕ). HasAnswered u o detection h.ended (h.rest ++ take n piece) t (position_of now)) (sym same) (stands_gathered u o detection h.ended h.rest before first now piece n g h.stands);
  }
    where
      same : before ++ text ≡ before
      same = ap (λ (xs : List ℕ). before ++ xs) none ∙ append-nil before

module _ {T O : Type 0} {tm om : _} (m : T → Relations) (p : O → Order) (text : List ℕ) where
  -- a line that lies whole in the bytes was answered
  pub ends_whole : (bytes : List ℕ) (now next : Console T O tm om) → length now.line ≡ 0 → AnswersLine m p now next bytes text → EndsLine m p now next bytes text
  ends_whole bytes now next none answers detection ended rest before h =
      rw empty (answers detection ended bytes before refl (rw empty at h))
    where
      empty : rest ≡ []
      empty = nil_from_length rest (omega (arith, none, ap length h.kept, length-take 33 rest))

  -- a line whose bytes were gathered was answered, where the book is the same and no other line had begun
  pub ends_gathered : (bytes line : List ℕ) (now next : Console T O tm om) (mid : Book T O tm om) (count : ℕ) (anew : List ℕ) → line ≡ take 33 (now.line ++ bytes) → mid ≡ now.book → count ≡ now.answered → anew ≡ []
      → ((detection : Detection) (ended : Lines) (whole before : List ℕ) → take 33 line ≡ take 33 whole → HasAnswered (m mid.policy.table) (p mid.policy.order) detection ended [] before (position_of_parts (state mid.tables) count anew) → HasAnswered (m mid.policy.table) (p mid.policy.order) detection (more ended whole) [] (before ++ text) (position_of next))
      → EndsLine m p now next bytes text
  ends_gathered bytes line now next mid count anew is same counts none answers detection ended rest before h =
      here detection ended (rest ++ bytes) before first (record {
        answered = subst (λ (k : Book T O tm om). AnswersLines (m now.book.policy.table) (p now.book.policy.order) detection ended before (state k.tables)) (sym same) h.answered;
        counted = counts ∙ h.counted;
        kept = none;
      })
    where
      first : take 33 line ≡ take 33 (rest ++ bytes)
      first = ap (λ (xs : List ℕ). take 33 xs) (is ∙ kept_more now.line rest bytes h.kept) ∙ take_again 33 (rest ++ bytes)

      here : (detection : Detection) (ended : Lines) (whole before : List ℕ) → take 33 line ≡ take 33 whole → HasAnswered (m now.book.policy.table) (p now.book.policy.order) detection ended [] before (position_of_parts (state mid.tables) count anew) → HasAnswered (m now.book.policy.table) (p now.book.policy.order) detection (more ended whole) [] (before ++ text) (position_of next)
      here = subst (λ (k : Book T O tm om). (detection : Detection) (ended : Lines) (whole before : List ℕ) → take 33 line ≡ take 33 whole → HasAnswered (m k.policy.table) (p k.policy.order) detection ended [] before (position_of_parts (state mid.tables) count anew) → HasAnswered (m k.policy.table) (p k.policy.order) detection (more ended whole) [] (before ++ text) (position_of next)) same answers

  -- the line has ended: its bytes were read, and its answer was printed
  pub line_read : (detection : Detection) (input before : List ℕ) (first next : Console T O tm om) (piece : List ℕ) (n : ℕ) → IsUnbroken (take n piece) → n < length piece → get_or piece n 0 ≡ 10 → EndsLine m p first next (take n piece) text → StandsAfter m p first detection input before first → StandsAfter m p first detection (input ++ take (n + 1) piece) (before ++ text) next
  line_read detection input before first next piece n unbroken inside ten ends h = record {
    ended = more h.ended (h.rest ++ take n piece);
    rest = [];
    cut = subst (λ (xs : List ℕ). Cut xs (more h.ended (h.rest ++ take n piece)) []) joined_up (cut_end (input ++ take n piece) h.ended (h.rest ++ take n piece) (cut_more input h.ended h.rest (take n piece) h.cut unbroken));
    stands = ends detection h.ended h.rest before h.stands;
  }
    where
      longer : take (n + 1) piece ≡ take n piece ++ 10 ∷ []
      longer = subst (λ (x : ℕ). take (n + 1) piece ≡ take n piece ++ x ∷ []) ten (take_more piece n 0 inside)

      joined_up : (input ++ take n piece) ++ 10 ∷ [] ≡ input ++ take (n + 1) piece
      joined_up = append_assoc input (take n piece) (10 ∷ []) ∙ ap (λ (xs : List ℕ). input ++ xs) (sym longer)

  -- the input has ended with a line that has begun
  pub ends_line : (now next : Console T O tm om) → 0 < length now.line → EndsLine m p now next [] text → EndsLines m p now next text
  ends_line now next some ends detection ended rest before h =
      rw (is_line rest begun) (rw (append-nil rest) at (ends detection ended rest before h))
    where
      begun : 0 < length rest
      begun = omega (arith, some, ap length h.kept, length-take 33 rest)

      is_line : (rest : List ℕ) → 0 < length rest → with_rest ended rest ≡ more ended rest
      is_line [] none = absurd (let e : ⊥ = omega (arith, none) in e)
      is_line (b ∷ bs) _ = refl

  -- the input has ended with no line that has begun
  pub ends_nothing : (now : Console T O tm om) → length now.line ≡ 0 → text ≡ [] → EndsLines m p now now text
  ends_nothing now none silent detection ended rest before h = rw (silent, append-nil before, empty) (rw empty at h)
    where
      empty : rest ≡ []
      empty = nil_from_length rest (omega (arith, none, ap length h.kept, length-take 33 rest))

  -- where the last line has ended, what was printed is the transcript of what was read
  pub finished : ((x : T) → UseLaws (m x)) → ((x : O) → OrderLaws (p x)) → (now next : Console T O tm om) → HasHistory (m now.book.policy.table) (p now.book.policy.order) (position_of now) → EndsLines m p now next text → Finishes m p now next [] text
  finished laws lawful now next some ends =
      after_input m p now _ some
      (λ detection input before h.
      let stands = ends detection h.ended h.rest before h.stands in
      record {
        done = record {
          transcript = record {
            ended = h.ended;
            rest = h.rest;
            left = state next.book.tables;
            cut = rw (append-nil input) h.cut;
            answered = stands.answered;
          };
          runs = lawful_run (m now.book.policy.table) (p now.book.policy.order) detection (laws now.book.policy.table) (lawful now.book.policy.order) stands.answered;
        };
        left = refl;
        counted = stands.counted;
        none_begun = stands.kept;
      })
