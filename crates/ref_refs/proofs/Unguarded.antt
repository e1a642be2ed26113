-- What a commit asks and tells where no ref that it changes has a rule or a watch: nothing.
use Rattle.std.proofs.Common.{◌≡◌, ◌⊎◌, inl, inr, ℕ, suc, ◌+◌, ◌<◌, ◌++◌, ◌∷◌, [], Bool, true, false, not, cond, List, Option, None, Some, length, take, get_or, slice_get, refl, sym, ap, subst, ◌∙◌, arith}
use Rattle.std.specs.BTreeSet.{insert_key}
use Rattle.std.specs.Ordering.{nat_cmp}
use Rattle.std.proofs.lemmas.Bool.{both_ways}
use Rattle.std.proofs.Math.Seq.{take-suc}
use Rattle.ref_value.specs.Edn.{Edn}
use Rattle.ref_fun.specs.Rule.{Accepts}
use Rattle.ref_fun.specs.declared.rules.Rule.{Rule}
use Rattle.ref_log.specs.Guards.{keys_at, passes_if_here, rule_at}
use Rattle.ref_log.specs.Replay.{is_ensure}
use Rattle.ref_log.specs.declared.guards.Guard.{Guard}
use Rattle.ref_log.specs.declared.operations.Done.{Done}
use Rattle.ref_refs.specs.Commit.{first_invalid}
use Rattle.ref_refs.specs.Watches.{AreUnguarded, IsUnguarded, notices, notices_if_here, touched_from, touched_refs}
use Rattle.ref_refs.proofs.Accepted.{all_insert}

touched_append : (rs : List ℕ) (ds : List Done) (d : Done) → touched_from rs (ds ++ d ∷ []) ≡ (cond (is_ensure d.op) (touched_from rs ds) (insert_key nat_cmp (touched_from rs ds) d.r))
touched_append rs [] d = refl
touched_append rs (x ∷ ds) d = touched_append (cond (is_ensure x.op) rs (insert_key nat_cmp rs x.r)) ds d

next_one : (ds : List Done) (i : ℕ) (d : Done) → i < length ds → d ≡ get_or ds i d → take (i + 1) ds ≡ take i ds ++ d ∷ []
next_one ds i d below at =
    let suc_of : i + 1 ≡ suc i = omega arith in
    ap (λ n. take n ds) suc_of ∙ take-suc ds i d below ∙ ap (λ x. take i ds ++ x ∷ []) (sym at)

-- one operation more, which changes nothing, or an unguarded ref
pub unguarded_more : (guards : List Guard) (ds : List Done) (i : ℕ) (d : Done) → i < length ds → d ≡ get_or ds i d → AreUnguarded guards (touched_refs (take i ds))
    → (is_ensure d.op ≡ true) ⊎ IsUnguarded guards d.r → AreUnguarded guards (touched_refs (take (i + 1) ds))
unguarded_more guards ds i d below at so_far one =
    subst (AreUnguarded guards) (sym (ap touched_refs (next_one ds i d below at) ∙ touched_append [] (take i ds) d)) (by one (is_ensure d.op) refl)
  where
    by : (is_ensure d.op ≡ true) ⊎ IsUnguarded guards d.r → (b : Bool) → is_ensure d.op ≡ b → AreUnguarded guards (cond b (touched_refs (take i ds)) (insert_key nat_cmp (touched_refs (take i ds)) d.r))
    by o true e = so_far
    by (inl ensures) false e = absurd (both_ways (is_ensure d.op) e ensures)
    by (inr unguarded) false e = all_insert (IsUnguarded guards) (touched_refs (take i ds)) d.r unguarded so_far

accepts_none : (accepts : Accepts) (rule : Option Rule) (v : Option Edn) → rule ≡ None → passes_if_here accepts rule v ≡ true
accepts_none accepts rule None none = refl
accepts_none accepts rule (Some v) none = rw none refl

pub invalid_none : (accepts : Accepts) (guards : List Guard) (values : List Edn) (rs : List ℕ) → AreUnguarded guards rs → first_invalid accepts guards values rs ≡ None
invalid_none accepts guards values [] none = refl
invalid_none accepts guards values (r ∷ rs) none =
    ap (λ b. cond (not b) (Some r) (first_invalid accepts guards values rs)) (accepts_none accepts (rule_at guards r) (slice_get values r) none.0.0)
    ∙ invalid_none accepts guards values rs none.1

tells_none : (r : ℕ) (keys : List Edn) (before after : Option Edn) → keys ≡ [] → notices_if_here r keys before after ≡ []
tells_none r keys None after none = refl
tells_none r keys (Some b) None none = refl
tells_none r keys (Some b) (Some a) none = rw none refl

pub notices_none : (guards : List Guard) (before after : List Edn) (rs : List ℕ) → AreUnguarded guards rs → notices guards before after rs ≡ []
notices_none guards before after [] none = refl
notices_none guards before after (r ∷ rs) none =
    ap (λ ns. ns ++ notices guards before after rs) (tells_none r (keys_at guards r) (slice_get before r) (slice_get after r) none.0.1)
    ∙ notices_none guards before after rs none.1
