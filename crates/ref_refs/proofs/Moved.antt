-- The last changes of touched refs move.
use Rattle.std.proofs.Common.{◌≡◌, ℕ, ◌==◌, ◌&&◌, ◌||◌, not, if◌then◌else◌, Bool, true, false, List, [], ◌∷◌, ◌++◌, refl, sym, ap, ◌∙◌}
use Rattle.std.proofs.lemmas.List.Folds.{list_any-append}
use Rattle.ref_log.specs.declared.operations.Done.{Done}
use Rattle.ref_log.specs.Replay.{is_ensure, is_touched}
use Rattle.ref_refs.specs.Commit.{changed_by, changed_by_one}
use Rattle.ref_refs.specs.Seen.{changed_at}
use Rattle.ref_refs.proofs.Refs.{or_false}

touched_more : (ds : List Done) (d : Done) (r : ℕ) → is_touched (ds ++ d ∷ []) r ≡ (is_touched ds r || (d.r == r && not (is_ensure d.op)))
touched_more ds d r =
    let on : Done → Bool = λ x. x.r == r && not (is_ensure x.op) in
    list_any-append on ds (d ∷ []) ∙ ap (λ b. is_touched ds r || b) (or_false (d.r == r && not (is_ensure d.op)))

either : (before here : Bool) (at last : ℕ) → (if here then at else (if before then at else last)) ≡ (if before || here then at else last)
either true true at last = refl
either true false at last = refl
either false true at last = refl
either false false at last = refl

-- after one operation more
pub moved_more : (old lasts new : List ℕ) (at : ℕ) (ds : List Done) (d : Done) → ((r : ℕ) → changed_at lasts r ≡ changed_by old at ds r) → ((r : ℕ) → changed_at new r ≡ changed_by_one lasts at d r) → (r : ℕ) → changed_at new r ≡ changed_by old at (ds ++ d ∷ []) r
moved_more old lasts new at ds d so_far one r =
    let here = d.r == r && not (is_ensure d.op) in
    one r ∙ (ap (λ last. if here then at else last) (so_far r) ∙ (either (is_touched ds r) here at (changed_at old r) ∙ ap (λ b. if b then at else changed_at old r) (sym (touched_more ds d r))))
