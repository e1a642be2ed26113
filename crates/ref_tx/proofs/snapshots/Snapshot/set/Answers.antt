use Rattle.ref_tx.proofs.Versions.{set_lasts, set_values}
use Rattle.ref_tx.proofs.snapshots.Snapshot.set.Goals as goal

pub returns-clause-values : goal.returns-clause-values
returns-clause-values c = set_values c.set.result c.self.inside.refs c.set.new.self c.args.self.now c.args.r c.args.at c.args.value c.self.view_is c.set.ensures.ok

pub returns-clause-lasts : goal.returns-clause-lasts
returns-clause-lasts c = set_lasts c.set.result c.self.inside.refs c.set.new.self c.args.self.now c.args.r c.args.at c.args.value c.self.view_is c.set.ensures.ok
