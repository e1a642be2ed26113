use Rattle.std.proofs.Common.{ℕ, nat_lt, refl, rules, sym}
use Rattle.std.proofs.lemmas.Fn.{filter_same}
use Rattle.ref_world.proofs.shares.Share.forget.Goals as goal

pub returns : goal.returns
returns g c =
    rw (sym c.self.view_is, filter_same _ (λ (p : ℕ). nat_lt c.args.point p) _ (λ x b f' k. search rules) _ _ c.retain.ensures.filtered) refl
