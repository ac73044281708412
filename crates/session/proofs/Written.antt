-- A text that is written by several writes.
use Rattle.std.proofs.Common.{◌≡◌, ℕ, ◌-◌, List, [], ◌++◌, length, take, drop, Option, sym, refl, ap, ◌∙◌, append_assoc, append-nil}
use Rattle.std.specs.Io.KnownBytes.{Appends, Keeps}
use Rattle.std.proofs.KnownBytes.{Appends-nil, Appends-trans, Appends-kept}
use Rattle.std.proofs.lemmas.List.{nil_from_length}
use Rattle.session.specs.Stands.{WritesFront}
use Rattle.session.proofs.Pieces.{two_parts}

-- the text was written, up to the rest
abbrev pub WritesUpTo : Option (List ℕ) → Option (List ℕ) → List ℕ → List ℕ → Type 0
WritesUpTo was is text rest = (front : List ℕ) × (text ≡ front ++ rest) × Appends was is front

-- nothing was written yet
pub written_nothing : (was : Option (List ℕ)) (text : List ℕ) → WritesUpTo was was text text
written_nothing was text = ([], refl, Appends-nil was)

-- some bytes more were written
pub written_more : (was is now : Option (List ℕ)) (text rest : List ℕ) (n : ℕ) → WritesUpTo was is text rest → Appends is now (take n rest) → WritesUpTo was now text (take (length rest - n) (drop n rest))
written_more was is now text rest n w more = (
  w.0 ++ take n rest,
  w.1 ∙ (ap (λ (xs : List ℕ). w.0 ++ xs) (two_parts n rest) ∙ sym (append_assoc w.0 (take n rest) (take (length rest - n) (drop n rest)))),
  Appends-trans was is now w.0 (take n rest) w.2 more,
)

-- a write failed
pub written_kept : (was is now : Option (List ℕ)) (text rest : List ℕ) → WritesUpTo was is text rest → Keeps is now → WritesUpTo was now text rest
written_kept was is now text rest w kept = (w.0, w.1, Appends-kept was is now w.0 w.2 kept)

-- the first bytes were written
pub written_front : (was is : Option (List ℕ)) (text rest : List ℕ) → WritesUpTo was is text rest → WritesFront was is text
written_front was is text rest w = (w.0, rest, w.1, w.2)

-- all were written
pub written_all : (was is : Option (List ℕ)) (text rest : List ℕ) → WritesUpTo was is text rest → length rest ≡ 0 → Appends was is text
written_all was is text rest w none = rw (w.1 ∙ (ap (λ (xs : List ℕ). w.0 ++ xs) (nil_from_length rest none) ∙ append-nil w.0)) w.2
