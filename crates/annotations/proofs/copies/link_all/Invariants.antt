use Rattle.std.proofs.Common.{◌≡◌, length}
use Rattle.annotations.specs.Spread.{AreHeads, AreLinks}
use Rattle.annotations.proofs.copies.link_all.Given as goal

abbrev pub invariant-loop-place : goal.invariant-loop-place
invariant-loop-place l = record {
  heads_long : length l.heads ≡ length l.fn.heads;
  links_long : length l.links.items ≡ l.place;
  are_heads : AreHeads l.equations l.place l.heads;
  are_links : AreLinks l.equations (length l.fn.heads) l.links.items;
}
