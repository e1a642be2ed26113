use Rattle.std.proofs.Common.{rules, arith, ◌≡◌, ◌≤◌, ◌∙◌}
use Rattle.ref_value.specs.Edn.{items_of, items_depth, entries_of, entries_depth}
use Rattle.ref_value.specs.Order.{items_cmp, entries_cmp}
use Rattle.ref_value.proofs.Passing.{items_passed, entries_passed}
use Rattle.ref_value.proofs.order.+compare.Goals as goal

pub compare_items-loop-x-preserved : goal.compare_items-loop-x-preserved
compare_items-loop-x-preserved t c =
    let passed = items_passed c.next.new.self c.next-in-Some.new.self c.pass_same.new.self c.pass_same.new.other c.pass_same.ensures in
    let rest : items_cmp (items_of c.next.new.self) (items_of c.next-in-Some.new.self) ≡ items_cmp (items_of c.args.a.now) (items_of c.args.b.now) = search rules in
    let shallow : items_depth (items_of c.next.new.self) ≤ items_depth (items_of c.args.a.now) = search rules in
    record { rest = passed.0 ∙ rest; shallow = omega (arith, passed.1, shallow) }

pub compare_elements-loop-x-preserved : goal.compare_elements-loop-x-preserved
compare_elements-loop-x-preserved t c =
    let passed = items_passed c.next.new.self c.next-in-Some.new.self c.pass_same.new.self c.pass_same.new.other c.pass_same.ensures in
    let rest : items_cmp (items_of c.next.new.self) (items_of c.next-in-Some.new.self) ≡ items_cmp (items_of c.args.a.now) (items_of c.args.b.now) = search rules in
    let shallow : items_depth (items_of c.next.new.self) ≤ items_depth (items_of c.args.a.now) = search rules in
    record { rest = passed.0 ∙ rest; shallow = omega (arith, passed.1, shallow) }

pub compare_entries-loop-key-preserved : goal.compare_entries-loop-key-preserved
compare_entries-loop-key-preserved t c =
    let passed = entries_passed c.next.new.self c.next-in-Some.new.self c.pass_same.new.self c.pass_same.new.other c.pass_same.ensures in
    let rest : entries_cmp (entries_of c.next.new.self) (entries_of c.next-in-Some.new.self) ≡ entries_cmp (entries_of c.args.a.now) (entries_of c.args.b.now) = search rules in
    let shallow : entries_depth (entries_of c.next.new.self) ≤ entries_depth (entries_of c.args.a.now) = search rules in
    record { rest = passed.0 ∙ rest; shallow = omega (arith, passed.1, shallow) }

pub compare_items-loop-x-init : goal.compare_items-loop-x-init
compare_items-loop-x-init t c =
    let passed = items_passed c.args.a.now c.args.b.now _ _ c.iter_beside-left.ensures in
    record { rest = passed.0; shallow = passed.1 }

pub compare_elements-loop-x-init : goal.compare_elements-loop-x-init
compare_elements-loop-x-init t c =
    let passed = items_passed c.args.a.now c.args.b.now _ _ c.iter_beside-left.ensures in
    record { rest = passed.0; shallow = passed.1 }

pub compare_entries-loop-key-init : goal.compare_entries-loop-key-init
compare_entries-loop-key-init t c =
    let passed = entries_passed c.args.a.now c.args.b.now _ _ c.iter_beside-left.ensures in
    record { rest = passed.0; shallow = passed.1 }
