use Rattle.std.proofs.Common.{rules, ◌≡◌, ◌<◌, ◌^◌, ◌++◌, ◌∷◌, [], subst, sym, ap, arith, ◌∙◌}
use Rattle.std.specs.FinMap.{len, insert}
use Rattle.ref_pmap.specs.ByNumber.{IsByNumber, items_of}
use Rattle.ref_pmap.proofs.Listed.{next_by_number, next_listed}
use Rattle.ref_pmap.proofs.numbered.Numbered.with_next.Goals as goal

pub invariant_of-result : goal.invariant_of-result
invariant_of-result g c =
    let m = c.self.inside.map in
    let next : c.in-Ok.next ≡ len m = search rules in
    let room : len m < 2 ^ 32 = omega arith in
    subst IsByNumber (sym (c.in_ok-with.ensures ∙ ap (λ k. insert m k c.args.value) next)) (next_by_number m c.args.value c.self.invariant room)

pub returns : goal.returns
returns g c =
    let m = c.self.inside.map in
    let next : c.in-Ok.next ≡ len m = search rules in
    let room : len m < 2 ^ 32 = omega arith in
    ap items_of (c.in_ok-with.ensures ∙ ap (λ k. insert m k c.args.value) next) ∙ next_listed m c.args.value c.self.invariant room ∙ ap (λ xs. xs ++ c.args.value ∷ []) c.self.view_is
