use Rattle.kcr_history.proofs.Listed.{answer}
use Rattle.kcr_history.proofs.replies.reply_text.Goals as goal

pub returns : goal.returns
returns c =
    rw (
      c.from_string.ensures,
      c.in_ok-push_str-2.ensures.bytes,
      c.in_ok-text-4.ensures,
      c.in_ok-text-3.ensures,
      c.in_ok-text-2.ensures,
      c.in_ok-push_str.ensures.bytes,
      c.format.ensures.text,
      c.in_ok-text.ensures.ok,
    ) (answer _ _ _ _)
