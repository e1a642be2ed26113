-- Laws of histories, for the crates above.
use Rattle.std.specs.Prelude.{◌≡◌, List, [], ◌∷◌, ◌++◌, refl}
use Rattle.std.proofs.Common.{ap, sym, ◌∙◌}
use Rattle.ref_log.specs.declared.entries.Entry.{Entry}
use Rattle.ref_world.specs.History.{Begins, with_entry}
use Rattle.ref_world.specs.Seen.{HistorySeen}

pub append-assoc : (xs ys zs : List Entry) → xs ++ (ys ++ zs) ≡ (xs ++ ys) ++ zs
append-assoc [] ys zs = refl
append-assoc (x ∷ xs) ys zs = ap (λ l. x ∷ l) (append-assoc xs ys zs)

pub begins_itself : (h : HistorySeen) → Begins h h
begins_itself h = record { more = []; start = refl; entries = nothing_more h.entries }
  where
    nothing_more : (es : List Entry) → es ≡ es ++ []
    nothing_more [] = refl
    nothing_more (e ∷ es) = ap (λ l. e ∷ l) (nothing_more es)

pub begins_then : (one two three : HistorySeen) → Begins one two → Begins two three → Begins one three
begins_then one two three first next = record {
  more = first.more ++ next.more;
  start = next.start ∙ first.start;
  entries = next.entries ∙ (ap (λ l. l ++ next.more) first.entries ∙ sym (append-assoc one.entries first.more next.more));
}

pub begins_more : (h : HistorySeen) (e : Entry) → Begins h (with_entry h e)
begins_more h e = record { more = e ∷ []; start = refl; entries = refl }
