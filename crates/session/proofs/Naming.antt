-- A filled report names the recalled and the woken that it was filled with.
use Rattle.std.proofs.Common.{◌≡◌, ℕ, ◌+◌, ◌-◌, ◌≤◌, List, [], ◌∷◌, ◌++◌, map, length, take, drop, replicate, refl, ap, ◌∙◌, append_assoc, arith}
use Rattle.std.proofs.lemmas.List.{length-map, map-append, take-take, take_at, drop_at, drop-take}
use Rattle.model.specs.Calls.{places, report_of}
use Rattle.model.specs.declared.report.ReportEntry.{ReportEntry}
use Rattle.protocol.specs.Words.{entries, recalled_entries, woken_entries}

-- numbers and sections of a list, beside each other again
names_map : (xs : List ReportEntry) → entries (map (λ x. x.dispatch) xs) (map (λ x. x.section) xs) ≡ xs
names_map [] = refl
names_map (x ∷ xs) = ap (λ (ys : List ReportEntry). x ∷ ys) (names_map xs)

-- the places of two lists, without the limit
two_parts : (f : ReportEntry → ℕ) (unused : ℕ) (xs ys : List ReportEntry) → map f (xs ++ ys) ++ replicate 64 unused ≡ map f xs ++ (map f ys ++ replicate 64 unused)
two_parts f unused xs ys =
    ap (λ (ns : List ℕ). ns ++ replicate 64 unused) (map-append f xs ys) ∙ append_assoc (map f xs) (map f ys) (replicate 64 unused)

-- the first places
front : (f : ReportEntry → ℕ) (unused : ℕ) (xs ys : List ReportEntry) → length xs + length ys ≤ 64 → take (length xs) (places unused (map f (xs ++ ys))) ≡ map f xs
front f unused xs ys fits =
    take-take (length xs) 64 (map f (xs ++ ys) ++ replicate 64 unused) (omega (arith, fits))
    ∙ (ap (λ (ns : List ℕ). take (length xs) ns) (two_parts f unused xs ys)
    ∙ take_at (map f xs) (map f ys ++ replicate 64 unused) (length xs) (length-map xs f))

-- the places after those
behind : (f : ReportEntry → ℕ) (unused : ℕ) (xs ys : List ReportEntry) → length xs + length ys ≤ 64 → take (length ys) (drop (length xs) (places unused (map f (xs ++ ys)))) ≡ map f ys
behind f unused xs ys fits =
    ap (λ (ns : List ℕ). take (length ys) ns) (ap (λ (n : ℕ). drop (length xs) (take n all)) whole ∙ drop-take (length xs) (64 - length xs) all)
    ∙ (take-take (length ys) (64 - length xs) (drop (length xs) all) (omega (arith, fits))
    ∙ (ap (λ (ns : List ℕ). take (length ys) (drop (length xs) ns)) (two_parts f unused xs ys)
    ∙ (ap (λ (ns : List ℕ). take (length ys) ns) (drop_at (map f xs) (map f ys ++ replicate 64 unused) (length xs) (length-map xs f))
    ∙ take_at (map f ys) (replicate 64 unused) (length ys) (length-map ys f))))
  where
    all : List ℕ
    all = map f (xs ++ ys) ++ replicate 64 unused

    whole : ◌≡◌ {A = ℕ} 64 (length xs + (64 - length xs))
    whole = omega (arith, fits)

-- the recalled
pub recalled_filled : (xs ys : List ReportEntry) → length xs + length ys ≤ 64 → recalled_entries (report_of xs ys) ≡ xs
recalled_filled xs ys fits =
    ap (λ (ns : List ℕ). entries ns (take (length xs) (places 65535 (map (λ x. x.section) (xs ++ ys))))) (front (λ x. x.dispatch) 255 xs ys fits)
    ∙ (ap (λ (ns : List ℕ). entries (map (λ x. x.dispatch) xs) ns) (front (λ x. x.section) 65535 xs ys fits) ∙ names_map xs)

-- the woken
pub woken_filled : (xs ys : List ReportEntry) → length xs + length ys ≤ 64 → woken_entries (report_of xs ys) ≡ ys
woken_filled xs ys fits =
    ap (λ (ns : List ℕ). entries ns (take (length ys) (drop (length xs) (places 65535 (map (λ x. x.section) (xs ++ ys)))))) (behind (λ x. x.dispatch) 255 xs ys fits)
    ∙ (ap (λ (ns : List ℕ). entries (map (λ x. x.dispatch) ys) ns) (behind (λ x. x.section) 65535 xs ys fits) ∙ names_map ys)
