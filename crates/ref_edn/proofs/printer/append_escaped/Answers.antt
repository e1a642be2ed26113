use Rattle.std.proofs.Common.{arith, ◌++◌, take, drop, ◌+◌, refl}
use Rattle.ref_edn.specs.Printed.{escaped, escaped_byte}
use Rattle.ref_edn.proofs.PrintedParts.{escaped_at, kept_twice, kept_put, step}
use Rattle.ref_edn.proofs.printer.append_escaped.Goals as goal

pub loop-b-preserved : goal.loop-b-preserved
loop-b-preserved c =
    let rest = c.loop-b.rest.now in
    let run = c.plain_len-run.result in
    let b = c.in-Some.b.now in
    let all = c.args.out.now.items ++ escaped c.args.s.now in
    let part = take run rest in
    let more = escaped (drop (run + 1) rest) in
    let e = escaped_at rest run b (omega (arith, c.in-Some.ensures.lookup.3.0)) c.in-Some.ensures.lookup.1 c.plain_len-run.ensures.plain in
    let first = step all c.loop-b.out.items c.extend_from_slice.new.self.items (escaped rest) part (escaped_byte b ++ more) c.loop-b.invariant.whole c.in_ok-extend_from_slice.ensures.items e in
    let second = step all c.extend_from_slice.new.self.items c.append_byte.new.out.items (escaped_byte b ++ more) (escaped_byte b) more first c.in_ok-append_byte.ensures.ok refl in
    let kept = kept_put c.args.out.now.items c.loop-b.out.items c.extend_from_slice.new.self.items part c.loop-b.invariant.kept c.in_ok-extend_from_slice.ensures.items in
    record { whole = rw c.after-rest.ensures second; kept = kept_twice c.args.out.now.items c.extend_from_slice.new.self.items c.append_byte.new.out.items kept c.append_byte.ensures.kept }
