use Rattle.std.proofs.Common.{ℕ, ◌+◌, [], ◌∷◌, ◌++◌, length, sym, ap, subst, ◌∙◌}
use Rattle.std.proofs.lemmas.List.{length-append}
use Rattle.annotations.proofs.Index.{heads_more, links_more}
use Rattle.annotations.specs.Spread.{AreHeads, AreLinks}
use Rattle.annotations.proofs.copies.link_all.Goals as goal

pub loop-place-preserved : goal.loop-place-preserved
loop-place-preserved c =
    let es = c.args.equations.now in let e = c.loop-place.place in let q = c.index-equations-place.result in
    let inv = c.loop-place.invariant in
    record {
      heads_long = c.link-before.auto.heads ∙ inv.heads_long;
      links_long = ap length c.in_ok-push.ensures.items ∙ (length-append c.loop-place.links.items (c.link-before.result ∷ []) ∙ ap (λ (n : ℕ). n + 1) inv.links_long);
      are_heads = subst (AreHeads es (e + 1)) (sym c.link-before.ensures.heads) (heads_more es e q c.loop-place-test.true c.index-equations-place.is c.loop-place.heads inv.are_heads);
      are_links = subst (AreLinks es (length c.args.heads.now)) (sym c.in_ok-push.ensures.items)
          (subst (λ (h : ℕ). AreLinks es (length c.args.heads.now) (c.loop-place.links.items ++ h ∷ [])) (sym c.link-before.ensures.link)
          (links_more es e q c.loop-place-test.true c.index-equations-place.is (length c.args.heads.now) c.loop-place.heads c.loop-place.links.items inv.heads_long inv.links_long inv.are_heads inv.are_links));
    }
