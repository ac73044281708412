-- The places of a report, with one more name; and whom a report names.
use Rattle.std.proofs.Common.{◌≡◌, ℕ, zero, suc, ◌+◌, ◌<◌, ◌≤◌, List, [], ◌∷◌, ◌++◌, ◌-◌, map, length, take, drop, set, replicate, sym, refl, ap, ◌∙◌, arith}
use Rattle.std.proofs.lemmas.List.{length-map, length-append, length_push, map_push, map-append, append-nil, append_assoc, take-replicate, take-take, take_at, drop_at, drop-take}
use Rattle.model.specs.Report.{places, report_of, entries, recalls_of, wakes_of}
use Rattle.model.specs.declared.report.ReportEntry.{ReportEntry}
use Rattle.model.specs.declared.report.Report.{Report}

-- one more entry in the first n of some entries and m unused ones
front_push :
    (n unused x : ℕ) (ns : List ℕ) (m : ℕ) → length ns < n → n ≤ length ns + m
    → set (take n (ns ++ replicate m unused))
    (length ns) x ≡ take n ((ns ++ x ∷ []) ++ replicate m unused)
front_push zero unused x ns m room wide = absurd (omega arith)
front_push (suc n) unused x [] zero room wide = absurd (omega arith)
front_push (suc n) unused x [] (suc m) room wide =
    ap (λ (t : List ℕ). x ∷ t) (take-replicate n m unused (omega arith) ∙ sym (take-replicate n (suc m) unused (omega arith)))
front_push (suc n) unused x (y ∷ ys) m room wide = ap (λ (t : List ℕ). y ∷ t) (front_push n unused x ys m (omega arith) (omega arith))

-- one more name in the 64 places
places_push :
    (f : ReportEntry → ℕ) (unused : ℕ) (ns : List ReportEntry) (n : ReportEntry) (place : ℕ)
    → place ≡ length ns → place < 64
    → set (places unused (map f ns)) place (f n) ≡ places unused (map f (ns ++ n ∷ []))
places_push f unused ns n place is room =
    let long = length-map ns f in
    let pushed = front_push 64 unused (f n) (map f ns) 64 (omega arith) (omega arith) in
    let at : place ≡ length (map f ns) = is ∙ sym long in
    ap (λ (k : ℕ). set (places unused (map f ns)) k (f n)) at ∙ (pushed ∙ ap (places unused) (sym (map_push f ns n)))

-- one more recalled
pub recalled_push : (r : Report) (recalls : List ReportEntry) (n : ReportEntry) → r.recalled < 64 → r ≡ report_of recalls [] → record { recalled = r.recalled + 1; woken = r.woken; dispatches = set r.dispatches r.recalled n.dispatch; sections = set r.sections r.recalled n.section } ≡ report_of (recalls ++ n ∷ []) []
recalled_push r recalls n room is =
    let none = append-nil recalls in
    let none_more = append-nil (recalls ++ n ∷ []) in
    let count : r.recalled ≡ length recalls = ap (λ (x : Report). x.recalled) is in
    let d = places_push (λ m. m.dispatch) 255 recalls n r.recalled count room in
    let s = places_push (λ m. m.section) 65535 recalls n r.recalled count room in
    let long = length_push recalls n in
    cc

-- one more woken
pub woken_push : (r : Report) (recalls wakes : List ReportEntry) (n : ReportEntry) → r.recalled + r.woken < 64 → r ≡ report_of recalls wakes → record { recalled = r.recalled; woken = r.woken + 1; dispatches = set r.dispatches (r.recalled + r.woken) n.dispatch; sections = set r.sections (r.recalled + r.woken) n.section } ≡ report_of recalls (wakes ++ n ∷ [])
woken_push r recalls wakes n room is =
    let joined = append_assoc recalls wakes (n ∷ []) in
    let recalled_count : r.recalled ≡ length recalls = ap (λ (x : Report). x.recalled) is in
    let woken_count : r.woken ≡ length wakes = ap (λ (x : Report). x.woken) is in
    let both = length-append recalls wakes in
    let place : r.recalled + r.woken ≡ length (recalls ++ wakes) = omega arith in
    let d = places_push (λ m. m.dispatch) 255 (recalls ++ wakes) n (r.recalled + r.woken) place room in
    let s = places_push (λ m. m.section) 65535 (recalls ++ wakes) n (r.recalled + r.woken) place room in
    let long = length_push wakes n in
    cc

-- dispatches and sections of a list, place by place again
entries_same :
    (xs : List ReportEntry) → entries (map (λ x. x.dispatch) xs) (map (λ x. x.section) xs) ≡ xs
entries_same [] = refl
entries_same (x ∷ xs) = ap (λ (ys : List ReportEntry). x ∷ ys) (entries_same xs)

-- the places of two lists, without the limit
two_parts :
    (f : ReportEntry → ℕ) (unused : ℕ) (xs ys : List ReportEntry)
    → map f (xs ++ ys) ++ replicate 64 unused ≡ map f xs ++ (map f ys ++ replicate 64 unused)
two_parts f unused xs ys =
    ap (λ (ns : List ℕ). ns ++ replicate 64 unused) (map-append f xs ys) ∙ append_assoc (map f xs) (map f ys) (replicate 64 unused)

-- the first places
front :
    (f : ReportEntry → ℕ) (unused : ℕ) (xs ys : List ReportEntry) → length xs + length ys ≤ 64
    → take (length xs) (places unused (map f (xs ++ ys))) ≡ map f xs
front f unused xs ys fits =
    take-take (length xs) 64 (map f (xs ++ ys) ++ replicate 64 unused) (omega (arith, fits))
    ∙ (ap (λ (ns : List ℕ). take (length xs) ns) (two_parts f unused xs ys)
    ∙ take_at (map f xs) (map f ys ++ replicate 64 unused) (length xs) (length-map xs f))

-- the places after those
behind :
    (f : ReportEntry → ℕ) (unused : ℕ) (xs ys : List ReportEntry) → length xs + length ys ≤ 64
    → take (length ys) (drop (length xs) (places unused (map f (xs ++ ys)))) ≡ map f ys
behind f unused xs ys fits =
    ap (λ (ns : List ℕ). take (length ys) ns) (ap (λ (n : ℕ). drop (length xs) (take n all)) whole ∙ drop-take (length xs) (64 - length xs) all)
    ∙ (take-take (length ys) (64 - length xs) (drop (length xs) all) (omega (arith, fits))
    ∙ (ap (λ (ns : List ℕ). take (length ys) (drop (length xs) ns)) (two_parts f unused xs ys)
    ∙ (ap (λ (ns : List ℕ). take (length ys) ns) (drop_at (map f xs) (map f ys ++ replicate 64 unused) (length xs) (length-map xs f))
    ∙ take_at (map f ys) (replicate 64 unused) (length ys) (length-map ys f))))
  where
    all : List ℕ
    all = map f (xs ++ ys) ++ replicate 64 unused

    whole : ◌≡◌ {A = ℕ} 64 (length xs + (64 - length xs))
    whole = omega (arith, fits)

-- a report of some recalled and some woken names the recalled
pub recalls_of-report_of :
    (xs ys : List ReportEntry) → length xs + length ys ≤ 64 → recalls_of (report_of xs ys) ≡ xs
recalls_of-report_of xs ys fits =
    ap (λ (ns : List ℕ). entries ns (take (length xs) (places 65535 (map (λ x. x.section) (xs ++ ys))))) (front (λ x. x.dispatch) 255 xs ys fits)
    ∙ (ap (λ (ns : List ℕ). entries (map (λ x. x.dispatch) xs) ns) (front (λ x. x.section) 65535 xs ys fits) ∙ entries_same xs)

-- and the woken
pub wakes_of-report_of :
    (xs ys : List ReportEntry) → length xs + length ys ≤ 64 → wakes_of (report_of xs ys) ≡ ys
wakes_of-report_of xs ys fits =
    ap (λ (ns : List ℕ). entries ns (take (length ys) (drop (length xs) (places 65535 (map (λ x. x.section) (xs ++ ys)))))) (behind (λ x. x.dispatch) 255 xs ys fits)
    ∙ (ap (λ (ns : List ℕ). entries (map (λ x. x.dispatch) ys) ns) (behind (λ x. x.section) 65535 xs ys fits) ∙ entries_same ys)
