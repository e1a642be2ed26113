use Rattle.std.proofs.Common.{refl, sym, true}
use Rattle.std.specs.Ordering.{eq_by_cmp}
use Rattle.ref_value.specs.Order.{edn_cmp}
use Rattle.ref_value.specs.OrderLaws.{edn_eq}
use Rattle.ref_value.proofs.order.equal_values_are_the_same.Goals as goal

pub returns : goal.returns
returns c = λ v w. ((λ equal. (edn_eq v w true (sym equal)).0 refl), (λ same. (edn_eq v w (eq_by_cmp edn_cmp v w) refl).1 same))
