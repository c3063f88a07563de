-- The laws of custody.

-- every act keeps balance, if it is not refused
pub use Rattle.kcr_custody.proofs.Balance.{add_box_keeps_balance, add_item_keeps_balance, take_keeps_balance}
pub use Rattle.kcr_custody.proofs.Balance.{put_keeps_balance, seal_keeps_balance, cut_keeps_balance}
-- neither a seal nor a cut loses or makes an item
pub use Rattle.kcr_custody.proofs.Balance.{seal_leaves_items, cut_leaves_items}
