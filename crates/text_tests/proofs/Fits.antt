-- A module that passes the tests can be written.
use Rattle.std.proofs.Common.{◌≡◌, ◌≢◌, ◌==◌, ◌≤◌, not, ◌&&◌, ℕ, Bool, true, false, length, nat_le, List, [], ◌∷◌, Option, Some, None, refl, arith}
use Rattle.std.specs.List.{list_all, AllByRecursion}
use Rattle.std.proofs.lemmas.Bool.Decides.{nat_tests}
use Rattle.agm_net.specs.Checks.{is_writable, range_fits}
use Rattle.agm_net.specs.Writable.{is_graphic, IsWritable}
use Rattle.agm_net.specs.declared.mark.Mark.{Mark}
use Rattle.agm_net.specs.declared.mark.Mark.TheVariants as kind
use Rattle.agm_net.specs.declared.port.Range.{Range}
use Rattle.small_text.specs.declared.small.Bit.{Bit}
use Rattle.small_text.specs.declared.small.Source.{Source}
use Rattle.small_text.specs.declared.small.Source.TheVariants as source
use Rattle.small_text.specs.declared.small.Declaration.{Declaration}
use Rattle.small_text.specs.declared.small.Declaration.TheVariants.{Port, Wires}
use Rattle.small_text.specs.declared.small.Item.{Item}
use Rattle.small_text.specs.declared.small.Item.TheVariants.{Assign, Not, Xor, And, Register}
use Rattle.small_text.specs.declared.small.Small.{Small}
use Rattle.small_text.specs.Grammar.{IsIndex, IsRange, IsBit, IsSource, IsDeclaration, IsItem, IsSmall, IsWritableBit, IsWritableSource, IsWritableDeclaration, IsWritableItem, HasWritableNames}
use Rattle.small_text.proofs.ByteKinds.{both, above_zero, all_pass}
use Rattle.text_tests.specs.Fits.{index_fits, bit_fits, source_fits, mark_fits, declaration_fits, pins_fit, item_fits, small_fits}

denied : (b : Bool) → not b ≡ true → b ≡ false
denied true h = absurd (cc)
denied false h = refl

-- a test that each passes tells a fact of each
each : {X : Type 0} (test : X → Bool) (P : X → Type 0) → ((x : X) → test x ≡ true → P x) → (xs : List X) → list_all test xs ≡ true → AllByRecursion P xs
each test P f [] h = tt
each test P f (x ∷ xs) h = let p = both (test x) (list_all test xs) h in (f x p.0, each test P f xs p.1)

writable_so : (name : List ℕ) → is_writable name ≡ true → IsWritable name
writable_so name h = let p = both (not (length name == 0)) (list_all is_graphic name) h in (above_zero (length name) (denied (length name == 0) p.0), all_pass is_graphic name p.1)

limit_so : (n : ℕ) → nat_le n 65535 ≡ true → n ≤ 65535
limit_so n h = grind (arith, nat_tests)

index_so : (i : Option ℕ) → index_fits i ≡ true → IsIndex i
index_so None h = tt
index_so (Some k) h = limit_so k h

range_so : (r : Option Range) → range_fits r ≡ true → IsRange r
range_so None h = tt
range_so (Some r) h = let p = both (nat_le r.msb 65535) (nat_le r.lsb 65535) h in (limit_so r.msb p.0, limit_so r.lsb p.1)

bit_so : (b : Bit) → bit_fits b ≡ true → IsBit b × IsWritableBit b
bit_so b h = let p = both (is_writable b.name) (index_fits b.index) h in (index_so b.index p.1, writable_so b.name p.0)

source_so : (s : Source) → source_fits s ≡ true → IsSource s × IsWritableSource s
source_so (source.Bit b) h = bit_so b h
source_so (source.Constant v) h = (tt, tt)

mark_so : (m : Mark) → mark_fits m ≡ true → m ≢ kind.Public
mark_so kind.Unmarked h e = absurd (cc)
mark_so kind.Secure h e = absurd (cc)
mark_so kind.Public h e = absurd (cc)
mark_so kind.Clock h e = absurd (cc)

declaration_so : (d : Declaration) → declaration_fits d ≡ true → IsDeclaration d × IsWritableDeclaration d
declaration_so (Port m w r n) h =
    let p = both (mark_fits m) (range_fits r && is_writable n) h in
    let q = both (range_fits r) (is_writable n) p.1 in
    ((mark_so m p.0, range_so r q.0), writable_so n q.1)
declaration_so (Wires names) h =
    let p = both (not (length names == 0)) (list_all is_writable names) h in
    (above_zero (length names) (denied (length names == 0) p.0), each is_writable IsWritable writable_so names p.1)

pins_so : (a b c : Bit) → pins_fit a b c ≡ true → (IsBit a × IsBit b × IsBit c) × (IsWritableBit a × IsWritableBit b × IsWritableBit c)
pins_so a b c h =
    let p = both (bit_fits a) (bit_fits b && bit_fits c) h in
    let q = both (bit_fits b) (bit_fits c) p.1 in
    let x = bit_so a p.0 in
    let y = bit_so b q.0 in
    let z = bit_so c q.1 in
    ((x.0, y.0, z.0), (x.1, y.1, z.1))

-- an instance with three pins
cell_so : (name : List ℕ) (a b c : Bit) → (is_writable name && pins_fit a b c) ≡ true → (IsBit a × IsBit b × IsBit c) × (IsWritable name × IsWritableBit a × IsWritableBit b × IsWritableBit c)
cell_so name a b c h =
    let p = both (is_writable name) (pins_fit a b c) h in
    let q = pins_so a b c p.1 in
    (q.0, (writable_so name p.0, q.1.0, q.1.1, q.1.2))

item_so : (i : Item) → item_fits i ≡ true → IsItem i × IsWritableItem i
item_so (Assign target from) h =
    let p = both (bit_fits target) (source_fits from) h in
    let x = bit_so target p.0 in
    let y = source_so from p.1 in
    ((x.0, y.0), (x.1, y.1))
item_so (Not name a y) h =
    let p = both (is_writable name) (bit_fits a && bit_fits y) h in
    let q = both (bit_fits a) (bit_fits y) p.1 in
    let x = bit_so a q.0 in
    let z = bit_so y q.1 in
    ((x.0, z.0), (writable_so name p.0, x.1, z.1))
item_so (Xor name a b y) h = cell_so name a b y h
item_so (And name a b y) h = cell_so name a b y h
item_so (Register name c d q) h = cell_so name c d q h

-- a module that passes is within the limits, and its names can be written
pub small_so : (s : Small) → small_fits s ≡ true → IsSmall s × HasWritableNames s
small_so s h =
    let p = both (is_writable s.name && not (length s.ports == 0)) (list_all is_writable s.ports && (list_all declaration_fits s.declarations && list_all item_fits s.items)) h in
    let q = both (is_writable s.name) (not (length s.ports == 0)) p.0 in
    let r = both (list_all is_writable s.ports) (list_all declaration_fits s.declarations && list_all item_fits s.items) p.1 in
    let t = both (list_all declaration_fits s.declarations) (list_all item_fits s.items) r.1 in (
      record {
        has_port = above_zero (length s.ports) (denied (length s.ports == 0) q.1);
        declarations_fit = each declaration_fits IsDeclaration (λ d e. (declaration_so d e).0) s.declarations t.0;
        items_fit = each item_fits IsItem (λ i e. (item_so i e).0) s.items t.1;
      },
      record {
        module_name = writable_so s.name q.0;
        port_names = each is_writable IsWritable writable_so s.ports r.0;
        declared_names = each declaration_fits IsWritableDeclaration (λ d e. (declaration_so d e).1) s.declarations t.0;
        item_names = each item_fits IsWritableItem (λ i e. (item_so i e).1) s.items t.1;
      },
    )
