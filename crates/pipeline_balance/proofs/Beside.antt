-- Ports that stand apart can be made beside each other.
use Rattle.std.proofs.Common.{◌≡◌, ◌≢◌, ◌++◌, ℕ, zero, suc, List, [], ◌∷◌, Option, map, flat_map, sym, ap, subst, ◌∙◌, arith, append_assoc, append-nil}
use Rattle.std.specs.List.{AllByRecursion}
use Rattle.agm_net.specs.declared.port.Range.{Range}
use Rattle.agm_net.proofs.Lists.{all_from, all_joined}
use Rattle.share_wiring.specs.Built.{IsNew}
use Rattle.share_wiring.specs.Own.{upto}
use Rattle.share_wiring.specs.Shape.{Header}
use Rattle.share_wiring.proofs.Lists.{all_back, all_both}
use Rattle.share_wiring.proofs.PortNames.{upto_cons}
use Rattle.pipeline_balance.specs.Apart.{Apart, AreApart, IsHeader}
use Rattle.pipeline_balance.specs.Ports.{header_bits, FitsBeside, input_header, row_of, FitOneByOne}
use Rattle.pipeline_balance.specs.Sublists.{IsSublist, none, kept, left}
use Rattle.pipeline_balance.proofs.Sublists.{of_sublist, whole, nothing, sublists_joined}

-- names of which none is among others
pub new_back : (xs ys : List (List ℕ)) → AllByRecursion (IsNew xs) ys → AllByRecursion (IsNew ys) xs
new_back [] ys h = tt
new_back (x ∷ xs) ys h = (
  all_from (IsNew (x ∷ xs)) (λ y. y ≢ x) (λ y new e. new.0 (sym e)) ys h,
  new_back xs ys (all_from (IsNew (x ∷ xs)) (IsNew xs) (λ y new. new.1) ys h),
)

pub apart_back : (g h : Header) → Apart g h → Apart h g
apart_back g h apart = record { names = λ e. apart.names (sym e); bits = new_back (header_bits g) (header_bits h) apart.bits }

all_new : (ys : List (List ℕ)) → AllByRecursion (IsNew []) ys
all_new [] = tt
all_new (y ∷ ys) = (tt, all_new ys)

new_bits : (olds : List Header) (h : Header) → AllByRecursion (λ g. Apart g h) olds → AllByRecursion (IsNew (flat_map header_bits olds)) (header_bits h)
new_bits [] h apart = all_new (header_bits h)
new_bits (g ∷ gs) h apart =
    all_both (IsNew (header_bits g)) (IsNew (flat_map header_bits gs)) (IsNew (header_bits g ++ flat_map header_bits gs))
    (λ bit here there. all_joined (λ old. old ≢ bit) (header_bits g) (flat_map header_bits gs) here there)
    (header_bits h) apart.0.bits (new_bits gs h apart.1)

new_name : (olds : List Header) (h : Header) → AllByRecursion (λ g. Apart g h) olds → IsNew (map (λ o. o.name) olds) h.name
new_name [] h apart = tt
new_name (g ∷ gs) h apart = (apart.0.names, new_name gs h apart.1)

-- a port that is apart from each of some can stand beside them
pub fits_beside : (olds : List Header) (h : Header) → AllByRecursion (λ g. Apart g h) olds → IsHeader h → FitsBeside olds h
fits_beside olds h apart made = record {
  new_name = new_name olds h apart;
  new_bits = new_bits olds h apart;
  written = made.written;
  port_name = made.port_name;
  small = made.small;
}

-- some of ports that are apart are
pub sublist_apart : (gs hs : List Header) → IsSublist gs hs → AreApart hs → AreApart gs
sublist_apart [] [] none apart = tt
sublist_apart (g ∷ gs) [] s apart = elim s [ ]
sublist_apart (g ∷ gs) (h ∷ hs) (kept s) apart = (of_sublist (Apart h) gs hs s apart.0, sublist_apart gs hs s apart.1)
sublist_apart gs (h ∷ hs) (left s) apart = sublist_apart gs hs s apart.1

-- one of them is apart from all others
others_apart : (before : List Header) (h : Header) (after : List Header) → AreApart (before ++ h ∷ after) → AllByRecursion (λ g. Apart g h) (before ++ after)
others_apart [] h after apart = all_from (Apart h) (λ g. Apart g h) (apart_back h) after apart.0
others_apart (b ∷ bs) h after apart = ((all_back (Apart b) bs (h ∷ after) apart.0).0, others_apart bs h after apart.1)

-- one of ports that are apart can stand among some others of them
pub fits_among : (before : List Header) (h : Header) (after hs : List Header) → IsSublist (before ++ h ∷ after) hs → AreApart hs → IsHeader h → FitsBeside (before ++ after) h
fits_among before h after hs some apart made = fits_beside (before ++ after) h (others_apart before h after (sublist_apart (before ++ h ∷ after) hs some apart)) made

-- and behind those that stand before it
pub fits_behind : (olds : List Header) (h : Header) (rest : List Header) → AreApart (olds ++ h ∷ rest) → IsHeader h → FitsBeside olds h
fits_behind olds h rest apart made =
    let some : IsSublist (olds ++ h ∷ []) (olds ++ h ∷ rest) = sublists_joined olds olds (h ∷ []) (h ∷ rest) (whole olds) (kept (nothing rest)) in
    subst (λ gs. FitsBeside gs h) (append-nil olds) (fits_among olds h [] (olds ++ h ∷ rest) some apart made)

-- input ports of some names, one after another
pub fit_one_by_one : (range : Option Range) (names : List (List ℕ)) (olds rest : List Header) → AreApart (olds ++ (map (input_header range) names ++ rest))
    → AllByRecursion IsHeader (map (input_header range) names) → FitOneByOne olds range names
fit_one_by_one range [] olds rest apart made k lt = absurd (omega arith)
fit_one_by_one range (n ∷ ns) olds rest apart made zero lt =
    subst (λ gs. FitsBeside gs (input_header range n)) (sym (append-nil olds)) (fits_behind olds (input_header range n) (map (input_header range) ns ++ rest) apart made.0)
fit_one_by_one range (n ∷ ns) olds rest apart made (suc k) lt =
    let f = input_header range in
    let longer : (gs : List Header) → (olds ++ f n ∷ []) ++ gs ≡ olds ++ f n ∷ gs = λ gs. append_assoc olds (f n ∷ []) gs in
    let next = fit_one_by_one range ns (olds ++ f n ∷ []) rest (subst AreApart (sym (longer (map f ns ++ rest))) apart) made.1 k (omega arith) in
    subst (λ gs. FitsBeside gs (f (row_of ns k)))
    (longer (upto k (λ i. f (row_of ns i))) ∙ ap (λ gs. olds ++ gs) (sym (upto_cons k (λ i. f (row_of (n ∷ ns) i))))) next
