use Rattle.share_wiring.proofs.NotSame as wrong
use Rattle.share_wiring.proofs.wrong.inverted_is_not_same.Goals as goal

pub returns : goal.returns
returns c = λ original marks report net n i m u p q first well same few output unread line. (
  wrong.wrong_well_formed original marks report net n i m u p q first well same few output unread line,
  wrong.wrong_has_shape original marks report net n i m u p q first well same few output unread line,
  wrong.wrong_has_no_loop original marks report net n i m u p q first well same few output unread line,
  wrong.is_not_same original marks report net n i m u p q first well same few output unread line,
)
