use Rattle.std.proofs.Common.{arith, ap, subst, ◌≡◌, ◌∙◌, ◌++◌, ◌∷◌, [], length, take}
use Rattle.std.specs.Prelude.{cond, true}
use Rattle.ref_value.specs.Edn.{items_of, entries_of}
use Rattle.ref_edn.specs.Printed.{printed, items_text, entries_text}
use Rattle.ref_edn.proofs.PrintedParts.{tail, entries_tail, tail_first, entries_tail_first, step, kept_twice}
use Rattle.ref_edn.proofs.printer.+append.Goals as goal

pub append_vector-append_element-requires : goal.append_vector-append_element-requires
append_vector-append_element-requires t c = let less = rw c.in-Some.ensures.steps at c.loop-x.invariant.shallow in (omega (arith, less), tt)

pub append_vector-loop-x-preserved : goal.append_vector-loop-x-preserved
append_vector-loop-x-preserved t c =
    let xs = c.args.items.now in
    let x = c.in-Some.x.now in
    let rest = c.next.new.self in
    let old = c.args.out.now.items in
    let out = c.loop-x.out.items in
    let put = c.append_element.new.out.items in
    let later = c.loop-x.later in
    let whole = rw c.in-Some.ensures.steps at c.loop-x.invariant.whole in
    let less = rw c.in-Some.ensures.steps at c.loop-x.invariant.shallow in
    record {
      whole = step (old ++ 91 ∷ items_text 93 (items_of xs) []) out put (tail later 93 (items_of (x ∷ rest))) (cond later (32 ∷ []) [] ++ printed x) (tail true 93 (items_of rest))
          whole c.in_ok-append_element.ensures.ok (tail_first 93 later x rest);
      kept = kept_twice old out put c.loop-x.invariant.kept c.append_element.ensures.kept;
      shallow = omega (arith, less);
    }

pub append_set-append_element-requires : goal.append_set-append_element-requires
append_set-append_element-requires t c = let less = rw c.in-Some.ensures.steps at c.loop-x.invariant.shallow in (omega (arith, less), tt)

pub append_set-loop-x-preserved : goal.append_set-loop-x-preserved
append_set-loop-x-preserved t c =
    let xs = c.args.elements.now in
    let x = c.in-Some.x.now in
    let rest = c.next.new.self in
    let old = c.args.out.now.items in
    let out = c.loop-x.out.items in
    let put = c.append_element.new.out.items in
    let later = c.loop-x.later in
    let whole = rw c.in-Some.ensures.steps at c.loop-x.invariant.whole in
    let less = rw c.in-Some.ensures.steps at c.loop-x.invariant.shallow in
    record {
      whole = step (old ++ 35 ∷ 123 ∷ items_text 125 (items_of xs) []) out put (tail later 125 (items_of (x ∷ rest))) (cond later (32 ∷ []) [] ++ printed x) (tail true 125 (items_of rest))
          whole c.in_ok-append_element.ensures.ok (tail_first 125 later x rest);
      kept = kept_twice old out put c.loop-x.invariant.kept c.append_element.ensures.kept;
      shallow = omega (arith, less);
    }

pub append_map-append_entry-requires : goal.append_map-append_entry-requires
append_map-append_entry-requires t c = let less = rw c.in-Some.ensures.steps at c.loop-key.invariant.shallow in (omega (arith, less), tt)

pub append_map-loop-key-preserved : goal.append_map-loop-key-preserved
append_map-loop-key-preserved t c =
    let es = c.args.entries.now in
    let k = c.in-Some.key.now in
    let x = c.in-Some.x.now in
    let rest = c.next.new.self in
    let old = c.args.out.now.items in
    let out = c.loop-key.out.items in
    let put = c.append_entry.new.out.items in
    let later = c.loop-key.later in
    let entry = cond later (44 ∷ 32 ∷ []) [] ++ (printed k ++ 32 ∷ printed x) in
    let whole = rw c.in-Some.ensures.steps at c.loop-key.invariant.whole in
    let less = rw c.in-Some.ensures.steps at c.loop-key.invariant.shallow in
    record {
      whole = step (old ++ 123 ∷ entries_text (entries_of es) []) out put (entries_tail later (entries_of ((k, x) ∷ rest))) entry (entries_tail true (entries_of rest))
          whole (c.in_ok-append_entry.ensures.ok ∙ ap (λ o. o ++ entry) c.make_room.ensures) (entries_tail_first later (k, x) rest);
      kept = kept_twice old out put c.loop-key.invariant.kept (subst (λ o. take (length o) put ≡ o) c.make_room.ensures c.append_entry.ensures.kept);
      shallow = omega (arith, less);
    }
