-- Lemmas on bytes that are put behind others.
use Rattle.std.proofs.Common.{◌≡◌, ℕ, zero, suc, ◌+◌, ◌-◌, ◌≤◌, List, [], ◌∷◌, ◌++◌, length, take, drop, min, replicate, sym, refl, ap, ◌∙◌, subst, append_assoc, arith, length-append, length-take}
use Rattle.std.proofs.lemmas.List.{append-nil, take_all, take_min, take-append-le, drop-drop, drop-replicate, replicate-append-replicate}
use Rattle.std.proofs.Math.Seq.{take-append-add}
use Rattle.text_buffer.specs.declared.TheConstants.{ROOM}
use Rattle.text_buffer.specs.TextBuffer.{put_behind}

-- a cut before more is put behind does not show once all is cut
pub take_cut : (n : ℕ) (xs ys : List ℕ) → take n (take n xs ++ ys) ≡ take n (xs ++ ys)
take_cut zero xs ys = refl
take_cut (suc n) [] ys = refl
take_cut (suc n) (x ∷ xs) ys = ap (λ (t : List ℕ). x ∷ t) (take_cut n xs ys)

-- bytes put behind bytes put behind
pub behind_behind : (before xs ys : List ℕ) → put_behind (put_behind before xs) ys ≡ put_behind before (xs ++ ys)
unfolding put_behind
behind_behind before xs ys = take_cut ROOM (before ++ xs) ys ∙ ap (λ (t : List ℕ). take ROOM t) (append_assoc before xs ys)

-- nothing is put behind what fits
pub behind_none : (before : List ℕ) → length before ≤ ROOM → before ≡ put_behind before []
unfolding put_behind
behind_none before h = sym (ap (λ (t : List ℕ). take ROOM t) (append-nil before) ∙ take_all ROOM before h)

-- what is put behind fits
pub behind_fits : (before xs : List ℕ) → length (put_behind before xs) ≤ ROOM
unfolding put_behind
behind_fits before xs = omega (arith, length-take ROOM (before ++ xs))

-- all that is put behind has room
pub behind_room : (before xs : List ℕ) → length before + length xs ≤ ROOM → put_behind before xs ≡ before ++ xs
unfolding put_behind
behind_room before xs h = take_all ROOM (before ++ xs) (omega (arith, length-append before xs))

-- nothing that is put behind has room
pub behind_full : (before xs : List ℕ) → length before ≡ ROOM → before ≡ put_behind before xs
unfolding put_behind
behind_full before xs e = sym (take-append-le ROOM before xs (omega arith) ∙ take_all ROOM before (omega arith))

-- of what is put behind there stands as much as has room
pub take_fitting : (room count : ℕ) (before xs : List ℕ) → length before ≡ count → count ≤ room → take room (before ++ xs) ≡ before ++ take (min (room - count) (length xs)) xs
take_fitting room count before xs long h =
    let whole : length before + (room - count) ≡ room = omega arith in
    subst (λ (n : ℕ). take n (before ++ xs) ≡ before ++ take (room - count) xs) whole (take-append-add before xs (room - count))
    ∙ ap (λ (t : List ℕ). before ++ t) (sym (take_min (room - count) xs))

-- the places after some that were blank are blank
pub blank_after : (bytes : List ℕ) (count more : ℕ) → drop count bytes ≡ replicate (ROOM - count) 0 → drop (count + more) bytes ≡ replicate (ROOM - (count + more)) 0
blank_after bytes count more blank =
    sym (drop-drop more count bytes)
    ∙ ap (λ (t : List ℕ). drop more t) blank
    ∙ drop-replicate more (ROOM - count) 0
    ∙ ap (λ (k : ℕ). replicate k 0) (omega arith)

-- bytes put behind in two steps
pub behind_then : (before middle after xs ys zs : List ℕ) → middle ≡ put_behind before xs → after ≡ put_behind middle ys → xs ++ ys ≡ zs → after ≡ put_behind before zs
behind_then before middle after xs ys zs first second both =
    second ∙ ap (λ (t : List ℕ). put_behind t ys) first ∙ behind_behind before xs ys ∙ ap (put_behind before) both

-- once all that was printed is set to 0, all places are blank
pub all_blank : (bytes zeros : List ℕ) (count n : ℕ) → count ≤ n → n ≤ ROOM → length bytes ≡ ROOM → drop count bytes ≡ replicate (ROOM - count) 0 → zeros ≡ replicate (length (take n bytes)) 0 → zeros ++ drop n bytes ≡ replicate ROOM 0
all_blank bytes zeros count n more fits long blank is =
    let size : length (take n bytes) ≡ n = omega (arith, length-take n bytes) in
    let further : count + (n - count) ≡ n = omega arith in
    let rest : drop n bytes ≡ replicate (ROOM - n) 0 = subst (λ (k : ℕ). drop k bytes ≡ replicate (ROOM - k) 0) further (blank_after bytes count (n - count) blank) in
    let whole : n + (ROOM - n) ≡ ROOM = omega arith in
    ap (λ (t : List ℕ). zeros ++ t) rest
    ∙ (ap (λ (t : List ℕ). t ++ replicate (ROOM - n) 0) (is ∙ ap (λ (k : ℕ). replicate k 0) size)
    ∙ (replicate-append-replicate n (ROOM - n) 0 ∙ ap (λ (k : ℕ). replicate k 0) whole))
