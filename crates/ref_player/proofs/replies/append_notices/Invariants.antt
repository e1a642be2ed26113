use Rattle.std.proofs.Common.{◌≡◌, ◌++◌, drop}
use Rattle.ref_player.specs.Lines.{notices_text}
use Rattle.ref_player.proofs.replies.append_notices.Given as goal

-- What is written, and what is left to write, are all of the notices.
abbrev pub invariant-loop-notice : goal.invariant-loop-notice
invariant-loop-notice l = l.out.items ++ notices_text (drop l.notice-index l.notices) ≡ l.fn.out.items ++ notices_text l.notices
