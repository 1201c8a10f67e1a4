use Rattle.std.proofs.Common.{◌≡◌, ◌++◌, IsTrue, Some, length}
use Rattle.agm_shelf.specs.Shelf.{OthersStay, Continues, text_of}
use Rattle.agm_shelf.proofs.whole.append_pieces.Given as goal

abbrev pub invariant-loop-rest : goal.invariant-loop-rest
invariant-loop-rest g l = record {
  held : IsTrue (g.H.Shelf.tells l.initial.shelf) → g.H.Shelf.holds l.shelf l.name ≡ Some (text_of (g.H.Shelf.holds l.shelf l.name));
  joined : IsTrue (g.H.Shelf.tells l.initial.shelf) → text_of (g.H.Shelf.holds l.shelf l.name) ++ l.rest ≡ l.text;
  pending : g.H.Shelf.pending l.shelf ≡ Some l.name;
  others : OthersStay l.name (g.H.Shelf.holds l.initial.shelf) (g.H.Shelf.holds l.shelf);
  goes_on : Continues g.H.Shelf.tells g.H.Shelf.sound g.H.Shelf.read_faults g.H.Shelf.write_faults l.initial.shelf l.shelf;
  reads : g.H.Shelf.read_faults l.shelf ≡ g.H.Shelf.read_faults l.initial.shelf;
}

abbrev pub decreases-loop-rest : goal.decreases-loop-rest
decreases-loop-rest g l = length l.rest
