use denote.Param.Send.{sendable}
use Rattle.std.proofs.Common.{arith, ap, ◌≡◌, true, is_ok}
use Rattle.std.proofs.Crossing as std
use Rattle.std.proofs.lemmas.Grind.{common_steps}
use Rattle.std.proofs.lemmas.List.{length-map, map-append}
use Rattle.std.proofs.lemmas.List.Elements.{All-rest}
use Rattle.ref_program.proofs.Crossing.{fault_send, hall_sync, left_send}
use Rattle.ref_world.proofs.Crossing.{share_send}
use Rattle.ref_program.specs.Seen.{HasDoneNothing}
use Rattle.ref_program.proofs.Sums.{numbers_more}
use Rattle.ref_program.proofs.running.start_workers.Goals as goal

pub spawn_with-requires-send-F : goal.spawn_with-requires-send-F
spawn_with-requires-send-F g c κs within = search (share_send, hall_sync, std.crosses, sendable) depth 60

pub spawn_with-requires-send-T : goal.spawn_with-requires-send-T
spawn_with-requires-send-T g c κs within = search (left_send, fault_send, std.crosses, sendable) depth 60

pub loop-part-preserved : goal.loop-part-preserved
loop-part-preserved g c =
    let was = c.loop-part.invariant in
    let few = c.requires.count.1 in
    let all = c.requires.count.0 in
    let step = c.in-Some.ensures.steps in
    let ok : is_ok c.push.result ≡ true = grind (arith, common_steps) in
    let items = rw ok at c.push.ensures.items in
    let len = rw ok at c.push.ensures.len in
    let here = ap (λ p. p.number) c.in-Ok.ensures.ok in
    let more = c.saturating_add-number.ensures in
    record {
      number = omega (arith, more, was.number, was.rest, step.1, len, few, all);
      rest = omega (arith, more, was.rest, step.1, few, all);
      fresh = All-rest (λ s. HasDoneNothing s × (s.parts ≡ 1)) _ _ _ step.0 was.fresh;
      numbers = rw (items, map-append) (numbers_more 0 _ _ (omega (arith, here, was.number, c.loop-part.workers.ok, length-map c.loop-part.workers.items (λ h. h.promise.number))) was.numbers);
    }
