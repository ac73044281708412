-- The lines of those that a report names.
use Rattle.std.proofs.Common.{◌≡◌, ℕ, ◌+◌, ◌-◌, ◌*◌, ◌^◌, ◌<◌, ◌≤◌, min, ◌⊎◌, List, [], ◌∷◌, ◌++◌, length, take, drop, codes, sym, refl, ap, ◌∙◌, ⊎_elim, arith, lit<, lit≤, length-append, length-drop, length-take}
use Rattle.std.proofs.lemmas.List.{append-nil, take_min, drop_min}
use Rattle.model.specs.declared.report.ReportEntry.{ReportEntry}
use Rattle.model.specs.declared.report.Report.{Report}
use Rattle.text_buffer.specs.TextBuffer.{put_behind}
use Rattle.text_buffer.proofs.TextBufferLemmas.{behind_none, behind_room, behind_behind}
use Rattle.protocol.specs.Words.{printed_line, entry_words, entry_lines, entries, report_lines, recalled_entries, woken_entries}
use Rattle.protocol.proofs.Lengths.{Below, below_take, below_drop, lines_short}

-- equal lists are named alike
pub lines_same : (number : ℕ) (word : List ℕ) {ds ds' ss ss' : List ℕ} → ds ≡ ds' → ss ≡ ss' → entry_lines number word (entries ds ss) ≡ entry_lines number word (entries ds' ss')
lines_same number word p q = cc

-- where either list is at its end nothing is named
pub none_named : (ds ss : List ℕ) → (ds ≡ []) ⊎ (ss ≡ []) → entries ds ss ≡ []
none_named [] ss h = refl
none_named (d ∷ ds) [] h = refl
none_named (d ∷ ds) (s ∷ ss) h = ⊎_elim (λ e. cc) (λ e. cc) h

-- one more line is put, and the others are to come
pub lines_step : (number : ℕ) (word was now ds ss : List ℕ) (d s : ℕ) (ds' ss' all : List ℕ) → ds ≡ d ∷ ds' → ss ≡ s ∷ ss' → now ≡ put_behind was (printed_line number (entry_words word (record { dispatch = d; section = s }))) → put_behind was (entry_lines number word (entries ds ss)) ≡ all → put_behind now (entry_lines number word (entries ds' ss')) ≡ all
lines_step number word was now ds ss d s ds' ss' all p q h before =
    let line = printed_line number (entry_words word (record { dispatch = d; section = s })) in
    ap (λ (t : List ℕ). put_behind t (entry_lines number word (entries ds' ss'))) h
    ∙ behind_behind was line (entry_lines number word (entries ds' ss'))
    ∙ ap (put_behind was) (sym (lines_same number word p q))
    ∙ before

-- the last line is put
pub lines_end : (number : ℕ) (word now ds ss all : List ℕ) → length now ≤ 2048 → (ds ≡ []) ⊎ (ss ≡ []) → put_behind now (entry_lines number word (entries ds ss)) ≡ all → now ≡ all
lines_end number word now ds ss all fits h before =
    behind_none now fits ∙ ap (λ (xs : List ReportEntry). put_behind now (entry_lines number word xs)) (sym (none_named ds ss h)) ∙ before

-- fronts that the length cuts alike
take_same : (m n : ℕ) (xs : List ℕ) → min m (length xs) ≡ min n (length xs) → take m xs ≡ take n xs
take_same m n xs e = sym (take_min m xs) ∙ ap (λ (k : ℕ). take k xs) e ∙ take_min n xs

-- rests that the length cuts alike
drop_same : (m n : ℕ) (xs : List ℕ) → min m (length xs) ≡ min n (length xs) → drop m xs ≡ drop n xs
drop_same m n xs e = sym (drop_min m xs) ∙ ap (λ (k : ℕ). drop k xs) e ∙ drop_min n xs

-- the first places
pub recalled_places : (recalled m : ℕ) (xs : List ℕ) → length xs ≡ 64 → m ≡ min recalled 64 → take m xs ≡ take recalled xs
recalled_places recalled m xs long is = take_same m recalled xs (omega arith)

-- the places after those
pub woken_places : (recalled woken m n : ℕ) (xs : List ℕ) → length xs ≡ 64 → m ≡ min recalled 64 → n ≡ min (m + woken) 64 → take (n - m) (drop m xs) ≡ take woken (drop recalled xs)
woken_places recalled woken m n xs long is end =
    ap (λ (ys : List ℕ). take (n - m) ys) (drop_same m recalled xs (omega arith))
    ∙ take_same (n - m) woken (drop recalled xs) (omega (arith, length-drop recalled xs))

-- the elements of the arrays of a report fit
pub record Fit (r : Report) : Type 0 where
  pub places : length r.dispatches ≡ 64
  pub numbers : Below 256 r.dispatches
  pub sections : Below 65536 r.sections

-- the lines of all whom a report names
pub named_short : (number : ℕ) (r : Report) → number < 2 ^ 32 → Fit r → length (report_lines number (recalled_entries r) (woken_entries r)) ≤ 28 * 64
named_short number r h fit =
    let ds = r.dispatches in
    let ss = r.sections in
    let n = r.recalled in
    let m = r.woken in
    let recalls = entry_lines number (codes "recall") (recalled_entries r) in
    let wakes = entry_lines number (codes "wake") (woken_entries r) in
    let first = lines_short number (codes "recall") (take n ds) (take n ss) h (lit≤ tt) (below_take 256 n ds (lit< tt) fit.numbers) (below_take 65536 n ss (lit< tt) fit.sections) in
    let second = lines_short number (codes "wake") (take m (drop n ds)) (take m (drop n ss)) h (lit≤ tt) (below_take 256 m (drop n ds) (lit< tt) (below_drop 256 n ds fit.numbers)) (below_take 65536 m (drop n ss) (lit< tt) (below_drop 65536 n ss fit.sections)) in
    let long = fit.places in
    omega (arith, length-append recalls wakes, length-take n ds, length-take m (drop n ds), length-drop n ds)

-- all that is printed for a line has room
pub all_fits : (line lines : List ℕ) → length line ≤ 28 → length lines ≤ 28 * 64 → put_behind (put_behind [] line) lines ≡ line ++ lines
all_fits line lines short few = behind_behind [] line lines ∙ behind_room [] (line ++ lines) (omega (arith, length-append line lines))

-- where nobody is named, nothing is printed but the reply
pub reply_alone : (number : ℕ) (line : List ℕ) (r : Report) → length line ≤ 28 → r.recalled ≡ 0 → r.woken ≡ 0 → put_behind [] line ≡ line ++ report_lines number (recalled_entries r) (woken_entries r)
reply_alone number line r short none nobody =
    behind_room [] line (omega arith) ∙ (sym (append-nil line) ∙ ap (λ (t : List ℕ). line ++ t) (sym (rw (none, nobody) refl)))
