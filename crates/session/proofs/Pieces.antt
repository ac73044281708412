-- A piece that is taken line by line.
use Rattle.std.proofs.Common.{◌≡◌, ℕ, ◌+◌, ◌-◌, ◌<◌, ◌≤◌, List, [], ◌∷◌, ◌++◌, map, length, get_or, take, drop, sym, refl, ap, ◌∙◌, subst, append_assoc, append-nil, arith}
use Rattle.std.proofs.lemmas.List.{take-append-drop, take_rest, drop_more, drop_all, nil_from_length}
use Rattle.std.proofs.lemmas.Bool.Decides.{nat_tests}
use Rattle.uses.specs.Relations.{Relations}
use Rattle.model.specs.Recalling.{Order}
use Rattle.model.specs.declared.state.Detection.{Detection}
use Rattle.book.specs.declared.policy.Policy.{Policy}
use Rattle.session.specs.Inputs.{line_length, all_bytes}
use Rattle.session.specs.Lawful.{LawfulTranscript}
use Rattle.session.specs.History.{HasRead, HasFinished, HasHistory}
use Rattle.session.specs.Stands.{position_of, StandsAfter, StandsAtEnd, Reads, ReadsAll, LosesAnswer, Finishes}
use Rattle.session.specs.declared.console.Console.{Console}
use Rattle.session.proofs.Histories.{after_input, after_also}

-- a line is no longer than the piece
pub line_inside : (piece : List ℕ) → line_length piece ≤ length piece
line_inside [] = omega arith
line_inside (b ∷ bs) = let h = line_inside bs in grind (arith, nat_tests, h)

-- something is taken of a piece that has something
pub line_some : (piece : List ℕ) → 0 < length piece → 0 < line_length piece
line_some [] h = h
line_some (b ∷ bs) h = grind (arith, nat_tests)

-- a rest in two parts, as a slice shows the second
pub two_parts : (n : ℕ) (rest : List ℕ) → rest ≡ take n rest ++ take (length rest - n) (drop n rest)
two_parts n rest = sym (take-append-drop n rest) ∙ ap (λ (xs : List ℕ). take n rest ++ xs) (sym (take_rest rest n))

-- the bytes of the pieces that are left, from the next one on
pub next_piece : {X : Type 0} (f : X → List ℕ) (ps : List X) (i : ℕ) (d : X) → i < length ps → all_bytes (map f (drop i ps)) ≡ f (get_or ps i d) ++ all_bytes (map f (drop (i + 1) ps))
next_piece {X} f ps i d inside = ap (λ (xs : List X). all_bytes (map f xs)) (drop_more ps i d inside)

-- no bytes are left behind the last piece
pub no_piece : {X : Type 0} (f : X → List ℕ) (ps : List X) (i : ℕ) → length ps ≤ i → length (all_bytes (map f (drop i ps))) ≡ 0
no_piece {X} f ps i all = ap (λ (xs : List X). length (all_bytes (map f xs))) (drop_all i ps all)

module _ {T O : Type 0} {tm om : _} (m : T → Relations) (p : O → Order) where
  -- the first part of the piece is read, and what is printed for it is put behind what was there; the policy stays
  pub record ReadPart (first now : Console T O tm om) (piece rest was out : List ℕ) : Type 0 where
    pub part : List ℕ
    pub text : List ℕ
    pub whole : piece ≡ part ++ rest
    pub printed : out ≡ was ++ text
    pub policy : now.book.policy ≡ first.book.policy
    pub reads : Reads m p first now part text

  -- nothing was read yet
  pub reads_nothing : (c : Console T O tm om) → HasHistory (m c.book.policy.table) (p c.book.policy.order) (position_of c) → Reads m p c c [] []
  reads_nothing c some = after_input m p c _ some (λ detection input before h. rw (append-nil input, append-nil before) h)

  -- no part was read yet
  pub read_nothing : (c : Console T O tm om) (piece was : List ℕ) → HasHistory (m c.book.policy.table) (p c.book.policy.order) (position_of c) → ReadPart c c piece piece was was
  read_nothing c piece was some = record {
    part = [];
    text = [];
    whole = refl;
    printed = sym (append-nil was);
    policy = refl;
    reads = reads_nothing c some;
  }

  -- what is read in two steps is read
  pub reads_on : (first now next : Console T O tm om) (bytes others text then : List ℕ) → now.book.policy ≡ first.book.policy → Reads m p first now bytes text → Reads m p now next others then → Reads m p first next (bytes ++ others) (text ++ then)
  reads_on first now next bytes others text then policy one two =
      after_also m p first _ _ one
      (λ detection input before _ read. rw (← append_assoc input bytes others, ← append_assoc before text then) (here detection (input ++ bytes) (before ++ text) read))
    where
      here : (detection : Detection) (input before : List ℕ) → StandsAfter m p first detection input before now → StandsAfter m p first detection (input ++ others) (before ++ then) next
      here = subst (λ (k : Policy T O). (detection : Detection) (input before : List ℕ) → HasRead (m k.table) (p k.order) detection input before (position_of now) → HasRead (m k.table) (p k.order) detection (input ++ others) (before ++ then) (position_of next)) policy two.every

  -- what is read first and then finished is finished
  pub finishes_on : (first now next : Console T O tm om) (bytes others text then : List ℕ) → now.book.policy ≡ first.book.policy → Reads m p first now bytes text → Finishes m p now next others then → Finishes m p first next (bytes ++ others) (text ++ then)
  finishes_on first now next bytes others text then policy one two =
      after_also m p first _ _ one
      (λ detection input before _ read. rw (← append_assoc input bytes others, ← append_assoc before text then) (here detection (input ++ bytes) (before ++ text) read))
    where
      here : (detection : Detection) (input before : List ℕ) → StandsAfter m p first detection input before now → StandsAtEnd m p first detection (input ++ others) (before ++ then) next
      here = subst (λ (k : Policy T O). (detection : Detection) (input before : List ℕ) → HasRead (m k.table) (p k.order) detection input before (position_of now) → HasFinished (m k.table) (p k.order) detection (input ++ others) (before ++ then) (position_of next)) policy two.every

  module _ (first now next : Console T O tm om) (piece rest bytes left was out text all : List ℕ) (r : ReadPart first now piece rest was out) (splits : rest ≡ bytes ++ left) (more : Reads m p now next bytes text) where
    -- the first part and the bytes make the longer part
    longer : piece ≡ (r.part ++ bytes) ++ left
    longer = r.whole ∙ (ap (λ (xs : List ℕ). r.part ++ xs) splits ∙ sym (append_assoc r.part bytes left))

    -- some bytes more
    pub read_more : all ≡ out ++ text → next.book.policy ≡ now.book.policy → ReadPart first next piece left was all
    read_more is policy = record {
      part = r.part ++ bytes;
      text = r.text ++ text;
      whole = longer;
      printed = is ∙ (ap (λ (xs : List ℕ). xs ++ text) r.printed ∙ append_assoc was r.text text);
      policy = policy ∙ r.policy;
      reads = reads_on first now next r.part bytes r.text text r.policy r.reads more;
    }

    -- a line more is read, and its answer is lost
    pub loses_answer : all ≡ out → LosesAnswer m p first next piece was all
    loses_answer stays = record {
      bytes = r.part ++ bytes;
      rest = left;
      text = r.text;
      lost = text;
      front = longer;
      put = stays ∙ r.printed;
      read = reads_on first now next r.part bytes r.text text r.policy r.reads more;
    }

  -- the whole piece is read
  pub read_whole : (first now : Console T O tm om) (piece rest was out : List ℕ) → ReadPart first now piece rest was out → length rest ≡ 0 → ReadsAll m p first now piece was out
  read_whole first now piece rest was out r none = (r.text, r.printed, rw all r.reads)
    where
      all : piece ≡ r.part
      all = r.whole ∙ (ap (λ (xs : List ℕ). r.part ++ xs) (nil_from_length rest none) ∙ append-nil r.part)

  -- from a new console to the end of the input
  pub whole_input : (t : T) (k : O) (detection : Detection) (first now next : Console T O tm om) (input rest was out text all : List ℕ) → HasRead (m t) (p k) detection [] [] (position_of first) → first.book.policy.table ≡ t → first.book.policy.order ≡ k → was ≡ [] → ReadPart first now input rest was out → length rest ≡ 0 → Finishes m p now next [] text → all ≡ out ++ text → LawfulTranscript (m t) (p k) detection input all
  whole_input t k detection first now next input rest was out text all starts table order none r over finishes is =
      let whole = read_whole first now input rest was out r over in
      let begins = rw (← table, ← order) at starts in
      let same : all ≡ whole.0 ++ text = is ∙ ap (λ (xs : List ℕ). xs ++ text) (whole.1 ∙ ap (λ (xs : List ℕ). xs ++ whole.0) none) in
      let done = finishes_on first now next input [] whole.0 text r.policy whole.2 finishes in
      rw (← table, ← order, same) (rw (append-nil input) at ((done.every detection [] [] begins).done))
