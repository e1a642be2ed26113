use Rattle.std.proofs.Common.{ap, length, refl, slice_index_or, sym, ◌+◌, ◌∙◌}
use Rattle.ref_log.specs.FoldLaws.{last_change-all}
use Rattle.ref_log.specs.Laws.{replay-refs}
use Rattle.ref_log.proofs.folding.fold.Goals as goal

pub returns-clause-ok : goal.returns-clause-ok
returns-clause-ok g c =
    let means = g.M.Meaning.means in
    let base = c.args.base.now in
    let es = c.args.entries.now in
    let state = c.in_ok-refs.field-0 in
    let replayed = c.in_ok-refs.ensures.ok in
    let lasts = c.in_ok-lasts.lasts.items in
    let last = c.in_ok-last.ensures.value in
    let all = c.in_ok-lasts.ensures in
    record {
      point = ap (λ n. base.point + n) c.len.ensures;
      replayed = replayed;
      changed = λ r. ap (λ l. slice_index_or l r 0) last ∙ last_change-all means base es state lasts replayed c.requires.lasts all.count all.marks r;
      lasts = ap length last ∙ (all.count ∙ sym (replay-refs means base es state replayed));
      tally = refl;
      commits = ap (λ n. base.commits + n) c.commits_of.ensures;
      added = ap (λ n. base.added + n) c.in-Some.ensures.some;
      taken = ap (λ n. base.taken + n) c.in-Some-moved_of.ensures.some;
    }
