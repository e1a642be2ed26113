use Rattle.std.proofs.Common.{length, sym, ap, subst, arith, length-drop}
use Rattle.std.proofs.lemmas.Result.{err_from_is_err_and}
use Rattle.ref_edn.specs.ReadTokens.{body_at}
use Rattle.ref_edn.proofs.Bodies.{Continues, continues_start, continues_to, continues_closed, continues_escape, continues_refused, continues_ends}
use Rattle.ref_edn.proofs.string_reader.body.Goals as goal

pub loop-i-init : goal.loop-i-init
loop-i-init c =
    let text = c.args.text.now in
    record { continues = subst (λ z. Continues z text (body_at text)) (sym c.new-bytes.ensures.items) (continues_start text); shorter = omega arith }

pub returns-then-at-eq34-clause-value : goal.returns-then-at-eq34-clause-value
returns-then-at-eq34-clause-value c =
    let found = c.extend_from_slice.new.self.items in
    let at = c.after-at.result.now in
    let p = continues_to c.loop-i.bytes.items c.loop-i.rest.now c.in-Some.i (body_at c.args.text.now) found at c.in-Some.ensures c.in_ok-extend_from_slice.ensures.items c.after-at.ensures c.loop-i.invariant.continues in
    rw c.after.ensures (continues_closed found at (body_at c.args.text.now) p.1 c.if-at-eq34.true p.0)

pub returns-in_err-c-clause-value : goal.returns-in_err-c-clause-value
returns-in_err-c-clause-value c =
    let found = c.extend_from_slice.new.self.items in
    let at = c.after-at.result.now in
    let p = continues_to c.loop-i.bytes.items c.loop-i.rest.now c.in-Some.i (body_at c.args.text.now) found at c.in-Some.ensures c.in_ok-extend_from_slice.ensures.items c.after-at.ensures c.loop-i.invariant.continues in
    let r = err_from_is_err_and c.from_residual-in_err-c.result c.from_residual-in_err-c.ensures.1 in
    rw (r.1, r.2) (continues_refused found at (body_at c.args.text.now) c.in_err-c.field-0.0 p.1 (p.2 c.if-at-eq34.false) c.in_err-c.ensures.value p.0)

pub loop-i-preserved : goal.loop-i-preserved
loop-i-preserved c =
    let found = c.extend_from_slice.new.self.items in
    let at = c.after-at.result.now in
    let p = continues_to c.loop-i.bytes.items c.loop-i.rest.now c.in-Some.i (body_at c.args.text.now) found at c.in-Some.ensures c.in_ok-extend_from_slice.ensures.items c.after-at.ensures c.loop-i.invariant.continues in
    record {
      continues = continues_escape found at _ _ _ (body_at c.args.text.now) p.1 (p.2 c.if-at-eq34.false) c.in_ok-c.ensures.value c.in_ok-c.ensures.shorter c.in_ok-push_char.ensures p.0;
      shorter = omega (arith, c.in_ok-c.ensures.shorter, ap length c.after-at.ensures, length-drop c.in-Some.i c.loop-i.rest.now);
    }

pub returns-clause-value : goal.returns-clause-value
returns-clause-value c = rw c.at.ensures (continues_ends c.loop-i.bytes.items c.loop-i.rest.now (body_at c.args.text.now) c.in_default.ensures c.loop-i.invariant.continues)
