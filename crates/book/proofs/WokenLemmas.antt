-- Who is woken, one dispatch after another.
use Rattle.std.proofs.Common.{◌≡◌, ℕ, ◌+◌, ◌<◌, Bool, true, false, cond, not, ◌&&◌, List, [], ◌∷◌, ◌++◌, map, length, get_or, take, is_some, Some, None, filter, Option, unwrap_or, sym, refl, ap, ◌∙◌, append-nil, append_assoc, arith}
use Rattle.std.proofs.lemmas.List.{map-append}
use Rattle.uses.specs.Relations.{Relations}
use Rattle.model.specs.Claims.{dispatch_waits, waiting_section}
use Rattle.model.specs.State.{State, numbers}
use Rattle.model.specs.Recalling.{entry_of}
use Rattle.model.specs.Calls.{report_of}
use Rattle.model.specs.declared.report.ReportEntry.{ReportEntry}
use Rattle.model.specs.declared.report.Report.{Report}
use Rattle.model.specs.declared.state.OpenEntry.{OpenEntry}
use Rattle.model.proofs.ClaimLists.{waiting_section_some}
use Rattle.book.specs.Tables.{woken_among}
use Rattle.book.proofs.TurnLemmas.{name}
use Rattle.book.proofs.VictimLemmas.{numbers_more}

module _ (u : Relations) (s t : State) where
  -- the dispatch is woken
  abbrev pub is_woken : ℕ → Bool
  is_woken d = dispatch_waits u s.claims d && not (dispatch_waits u t.claims d)

  -- the entry of the dispatch alone, if it is to be named
  abbrev pub entry_if : ℕ → Bool → List ReportEntry
  entry_if d b = map (entry_of u s) (cond b (d ∷ []) [])

  module _ (d : ℕ) (rs ws : List ReportEntry) (r : Report) where
    -- who is not woken is not named
    not_woken : is_woken d ≡ false → r ≡ report_of rs ws → r ≡ report_of rs (ws ++ woken_among u s t (d ∷ []))
    not_woken out is = is ∙ ap (report_of rs) (sym (ap (λ (b : Bool). ws ++ entry_if d b) out ∙ append-nil ws))

    -- it did not wait before
    pub woken_ran : waiting_section u s.claims d ≡ None → r ≡ report_of rs ws → r ≡ report_of rs (ws ++ woken_among u s t (d ∷ []))
    woken_ran none =
        let ran : dispatch_waits u s.claims d ≡ false = sym (waiting_section_some u s.claims d) ∙ ap (λ (v : Option ℕ). is_some v) none in
        not_woken (grind (arith, ran))

    -- it waits still
    pub woken_waits : dispatch_waits u t.claims d ≡ true → r ≡ report_of rs ws → r ≡ report_of rs (ws ++ woken_among u s t (d ∷ []))
    woken_waits still = not_woken (grind (arith, still))

    -- it waited before and runs now
    pub woken_now : (section : ℕ) → waiting_section u s.claims d ≡ Some section → dispatch_waits u t.claims d ≡ false → r ≡ report_of rs (ws ++ record { dispatch = d; section = section } ∷ []) → r ≡ report_of rs (ws ++ woken_among u s t (d ∷ []))
    woken_now section some runs is =
        let waited : dispatch_waits u s.claims d ≡ true = sym (waiting_section_some u s.claims d) ∙ ap (λ (v : Option ℕ). is_some v) some in
        let woke : is_woken d ≡ true = grind (arith, waited, runs) in
        let who : ◌≡◌ {A = ReportEntry} (record { dispatch = d; section = section }) (entry_of u s d) = sym (ap (λ (v : Option ℕ). name d (unwrap_or v 65535)) some) in
        is ∙ (ap (λ (n : ReportEntry). report_of rs (ws ++ n ∷ [])) who ∙ ap (report_of rs) (sym (ap (λ (b : Bool). ws ++ entry_if d b) woke)))

  -- one more of the open list, woken or not
  pub woken_more : (es : List OpenEntry) (i : ℕ) (x : OpenEntry) → i < length es → (rs ws : List ReportEntry) → report_of rs ((ws ++ woken_among u s t (numbers (take i es))) ++ woken_among u s t ((get_or es i x).dispatch ∷ [])) ≡ report_of rs (ws ++ woken_among u s t (numbers (take (i + 1) es)))
  woken_more es i x h rs ws =
      let d = (get_or es i x).dispatch in
      let one = entry_if d (is_woken d) in
      let more = ap (map (entry_of u s)) (numbers_more is_woken es i x h) ∙ map-append (entry_of u s) (filter is_woken (numbers (take i es))) (cond (is_woken d) (d ∷ []) []) in
      ap (report_of rs) (append_assoc ws (woken_among u s t (numbers (take i es))) one ∙ ap (λ ns. ws ++ ns) (sym more))

-- an option that is no value is none
pub none_from : (v : Option ℕ) → ((x : ℕ) → v ≡ Some x → ⊥) → v ≡ None
none_from None h = refl
none_from (Some x) h = absurd (h x refl)

-- what is found to be none is none
pub none_is : (v : Option ℕ) → is_some v ≡ false → v ≡ None
none_is None h = refl
none_is (Some x) h = grind (arith, h)
