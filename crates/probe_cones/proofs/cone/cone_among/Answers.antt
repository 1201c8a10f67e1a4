use Rattle.std.proofs.Common.{◌<◌, ℕ, Bool, count_by, ◌==◌, cond, ◌∙◌, sym, ap, subst, get_or, length, eq-eqb, refl}
use Rattle.std.proofs.lemmas.List.Sorted.{IsNonDecreasingBy-from_sort, sum_by-IsPermutation}
use Rattle.std.proofs.lemmas.Option.{slice_get-get_or}
use Rattle.agm_net.proofs.Lists.{any_at}
use Rattle.agm_net.specs.View.{plain_of}
use Rattle.probe_cones.specs.Origins.{comes_from_source, origin_at}
use Rattle.probe_cones.proofs.Ascending.{cone_is, led_inside}
use Rattle.probe_cones.proofs.OriginsTold.{told_source}
use Rattle.probe_cones.proofs.cone.cone_among.Goals as goal

pub sources-requires : goal.sources-requires
sources-requires c = λ k d lt. (
    let net = plain_of c.args.net.now in
    let found = c.args.found.now in
    let v = get_or found k d in
    let among = any_at (λ x. x == v) found k v (slice_get-get_or found k d lt) (eq-eqb v v refl) in
    let inside : v < length net.wires = led_inside net c.args.net.now.well_formed c.args.wire c.requires.in_range v ((c.requires.found.leads v).0 among) in
    subst (λ n. v < n) (sym c.requires.origins.one_each) inside)

pub returns : goal.returns
returns c =
    let net = plain_of c.args.net.now in
    let well = c.args.net.now.well_formed in
    let origins = c.args.origins.now in
    let p : ℕ → Bool = λ v. comes_from_source (origin_at origins v) in
    let sorted = c.sort.new.self.items in
    c.from_vec.ensures ∙ cone_is net well c.requires.no_loop c.args.wire c.requires.in_range p (λ v lt. told_source net well (origin_at origins v) v (c.requires.origins.tells v lt)) c.args.found.now sorted c.requires.found
    (λ v. sum_by-IsPermutation (λ x. cond (x == v) 1 0) c.in_ok-cone.cone.items sorted c.in_ok-sort.ensures.permutation ∙ ap (λ xs. count_by (λ x. x == v) xs) c.in_ok-cone.ensures)
    (IsNonDecreasingBy-from_sort (λ x. x) sorted c.in_ok-sort.ensures.sorted)
