use Rattle.std.proofs.Common.{◌≡◌, ◌<◌, ◌+◌, ◌++◌, ◌∷◌, [], ℕ, length, get_or, refl, sym, ap, ◌∙◌, arith}
use Rattle.std.proofs.lemmas.Option.{slice_get-get_or}
use Rattle.std.proofs.lemmas.List.{length-append, get_or_append_left}
use Rattle.std.proofs.Math.Seq.{get_or-append_seam}
use Rattle.logic_graph.specs.declared.nodes.Node.TheVariants.{Zero}
use Rattle.logic_graph.specs.Settled.{bit_of}
use Rattle.naive_mode.specs.Rows.{place_at}
use Rattle.naive_mode.proofs.LaidRows.{rows_more, placed_more}
use Rattle.naive_mode.proofs.rows.lay_out.Goals as goal

pub loop-k-preserved : goal.loop-k-preserved
loop-k-preserved c =
    let k = c.loop-k.k in
    let nodes = c.args.nodes.now in
    let live = bit_of c.args.live.now in
    let n = get_or nodes k Zero in
    let inv = c.loop-k.invariant in
    let lt : k < length nodes = c.loop-k-test.true in
    let before = c.requires.in_order k n (slice_get-get_or nodes k Zero lt) in
    let count : length c.loop-k.places ≡ k = inv.count in
    let places = c.push.new.self in
    let more : places ≡ c.loop-k.places ++ c.in_ok-place.place ∷ [] = c.in_ok-push.ensures.ok in
    let slice : c.as_slice.result.now ≡ c.loop-k.places = c.as_slice.ensures in
    let old : (p : ℕ → ℕ) → ((j : ℕ) → j < k + 1 → p j ≡ place_at places j) → (j : ℕ) → j < k → p j ≡ place_at c.loop-k.places j =
    λ p agree j lj. agree j (omega arith) ∙ (ap (λ l. place_at l j) more ∙ get_or_append_left c.loop-k.places (c.in_ok-place.place ∷ []) 0 j (omega arith)) in
    let new : (p : ℕ → ℕ) → ((j : ℕ) → j < k + 1 → p j ≡ place_at places j) → p k ≡ c.in_ok-place.place =
    λ p agree. agree k (omega arith) ∙ (ap (λ l. place_at l k) more ∙ (ap (place_at (c.loop-k.places ++ c.in_ok-place.place ∷ [])) (sym count) ∙ get_or-append_seam c.loop-k.places c.in_ok-place.place [] 0)) in
    let seen : (p : ℕ → ℕ) → ((j : ℕ) → j < k + 1 → p j ≡ place_at places j) → (j : ℕ) → j < k → place_at c.as_slice.result.now j ≡ p j =
    λ p agree j lj. ap (λ l. place_at l j) slice ∙ sym (old p agree j lj) in
    record {
      count = (let long = ap length more ∙ length-append c.loop-k.places (c.in_ok-place.place ∷ []) in omega arith);
      laid = λ p agree. rows_more live p (place_at c.as_slice.result.now) nodes k (live k) c.loop-k.rows c.add_live.new.nodes lt before refl (seen p agree) c.in_ok-place.ensures.added ∙ inv.laid p (old p agree);
      placed = λ p agree placed. inv.placed p (old p agree)
          (placed_more live p (place_at c.as_slice.result.now) nodes k (live k) c.loop-k.rows c.add_live.new.nodes lt before refl (seen p agree) c.in_ok-place.ensures.added
          (λ on. ap (λ i. i + 1) (new p agree) ∙ c.in_ok-place.ensures.last on) placed);
    }
