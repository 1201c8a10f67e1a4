-- The index of copies, equation by equation.
use Rattle.std.proofs.Common.{◌≡◌, ℕ, ◌+◌, ◌<◌, true, false, Option, Some, None, List, [], ◌∷◌, ◌++◌, length, get_or, set, replicate, refl, sym, ap, subst, ◌∙◌, arith}
use Rattle.std.specs.Option.{option_map_or}
use Rattle.std.specs.Prelude.{◌==◌, slice_index}
use Rattle.std.proofs.Math.Seq.{get_or-append_seam}
use Rattle.std.proofs.lemmas.Bool.{cases_eq, ne_eqb, eq-eqb, eqb-true}
use Rattle.std.proofs.lemmas.Grind.{get_or-set_at}
use Rattle.std.proofs.lemmas.List.{length-append, length-set, get_or-set_other, get_or-replicate, get_or_append_left, length-replicate}
use Rattle.std.proofs.lemmas.Option.{slice_get-get_or}
use mathlib.Core.Logic.{⊎_elim}
use Rattle.agm_net.specs.Formula.{Formula, formula_of, f_zero, f_one, f_wire, f_not, f_and, f_or, f_xor, f_mux}
use Rattle.agm_net.specs.declared.expr.Equation.{Equation}
use Rattle.annotations.specs.Clocked.{is_alone}
use Rattle.annotations.specs.Spread.{copied, copies_at, IsLast, AreHeads, AreLinks, heads_after, link_of}

copies_here : (es : List Equation) (e : ℕ) (q : Equation) (v : ℕ) → e < length es → q ≡ get_or es e q → copies_at es e v ≡ is_alone v (formula_of q.expr)
copies_here es e q v within here =
    ap (λ (o : Option Equation). option_map_or (λ (p : Equation). is_alone v (formula_of p.expr)) o false) (slice_get-get_or es e q within) ∙ ap (λ (p : Equation). is_alone v (formula_of p.expr)) (sym here)

alone_copied : (f : Formula) (v : ℕ) → is_alone v f ≡ option_map_or (λ u. u == v) (copied f) false
alone_copied f_zero v = refl
alone_copied f_one v = refl
alone_copied (f_wire u) v = refl
alone_copied (f_not x) v = refl
alone_copied (f_and x y) v = refl
alone_copied (f_or x y) v = refl
alone_copied (f_xor x y) v = refl
alone_copied (f_mux s x y) v = refl

module _ (es : List Equation) (e : ℕ) where
  stays : (v h : ℕ) → copies_at es e v ≡ false → IsLast es v e h → IsLast es v (e + 1) h
  stays v h other last = record {
    within = let w = last.within in omega arith;
    none_behind = λ k lo hi. ⊎_elim (λ same. subst (λ (j : ℕ). copies_at es j v ≡ false) (sym same) other) (λ differ. last.none_behind k lo (omega arith)) (cases_eq k e);
    here = last.here;
  }

  begins : (v : ℕ) → copies_at es e v ≡ true → IsLast es v (e + 1) (e + 1)
  begins v holds = record {
    within = omega arith;
    none_behind = λ k lo hi. absurd (omega arith);
    here = λ k same. subst (λ (j : ℕ). copies_at es j v ≡ true) (omega arith) holds;
  }

  heads_with : (heads : List ℕ) (o : Option ℕ) → ((v : ℕ) → copies_at es e v ≡ option_map_or (λ u. u == v) o false) → AreHeads es e heads → AreHeads es (e + 1) (heads_after heads (e + 1) o)
  heads_with heads None tells last v within = stays v (slice_index heads v) (tells v) (last v within)
  heads_with heads (Some u) tells last v within =
      let long : length (set heads u (e + 1)) ≡ length heads = length-set heads u (e + 1) in
      ⊎_elim
      (λ same. let here : slice_index (set heads u (e + 1)) v ≡ e + 1 = get_or-set_at heads u v (e + 1) 0 (sym same) (omega arith) in
      subst (λ (h : ℕ). IsLast es v (e + 1) h) (sym here) (begins v (tells v ∙ eq-eqb u v same)))
      (λ differ. let here : slice_index (set heads u (e + 1)) v ≡ slice_index heads v = get_or-set_other heads u v (e + 1) 0 (λ e'. differ (sym e')) in
      subst (λ (h : ℕ). IsLast es v (e + 1) h) (sym here) (stays v (slice_index heads v) (tells v ∙ ne_eqb u v differ) (last v (omega arith))))
      (cases_eq u v)

  link_with : (heads : List ℕ) (o : Option ℕ) (v : ℕ) → v < length heads → option_map_or (λ u. u == v) o false ≡ true → AreHeads es e heads → IsLast es v e (link_of heads o)
  link_with heads None v within holds last = absurd (cc)
  link_with heads (Some u) v within holds last = let same : u ≡ v = eqb-true u v holds in subst (λ (w : ℕ). IsLast es v e (slice_index heads w)) (sym same) (last v within)

module _ (es : List Equation) (e : ℕ) (q : Equation) (within : e < length es) (here : q ≡ get_or es e q) where
  tells : (v : ℕ) → copies_at es e v ≡ option_map_or (λ u. u == v) (copied (formula_of q.expr)) false
  tells v = copies_here es e q v within here ∙ alone_copied (formula_of q.expr) v

  -- the heads after one more equation
  pub heads_more : (heads : List ℕ) → AreHeads es e heads → AreHeads es (e + 1) (heads_after heads (e + 1) (copied (formula_of q.expr)))
  heads_more heads last = heads_with es e heads (copied (formula_of q.expr)) tells last

  -- and the links
  pub links_more : (n : ℕ) (heads links : List ℕ) → length heads ≡ n → length links ≡ e → AreHeads es e heads → AreLinks es n links → AreLinks es n (links ++ link_of heads (copied (formula_of q.expr)) ∷ [])
  links_more n heads links wide long last linked k v in_links in_wires holds =
      let o = copied (formula_of q.expr) in
      let longer : length (links ++ link_of heads o ∷ []) ≡ length links + 1 = length-append links (link_of heads o ∷ []) in
      ⊎_elim
      (λ same.
      let at : slice_index (links ++ link_of heads o ∷ []) k ≡ link_of heads o = ap (slice_index (links ++ link_of heads o ∷ [])) (same ∙ sym long) ∙ get_or-append_seam links (link_of heads o) [] 0 in
      let told : option_map_or (λ u. u == v) o false ≡ true = sym (tells v) ∙ subst (λ (j : ℕ). copies_at es j v ≡ true) same holds in
      subst (λ (h : ℕ). IsLast es v k h) (sym at) (subst (λ (j : ℕ). IsLast es v j (link_of heads o)) (sym same) (link_with es e heads o v (omega arith) told last)))
      (λ differ.
      let before : k < length links = omega arith in
      subst (λ (h : ℕ). IsLast es v k h) (sym (get_or_append_left links (link_of heads o ∷ []) 0 k before)) (linked k v before in_wires holds))
      (cases_eq k e)

-- before the first equation no wire has a copy
pub no_heads : (es : List Equation) (n : ℕ) → AreHeads es 0 (replicate n 0)
no_heads es n v within =
    let zero_at : slice_index (replicate n 0) v ≡ 0 = get_or-replicate n v 0 0 (subst (λ (k : ℕ). v < k) (length-replicate n 0) within) in
    record {
      within = omega arith;
      none_behind = λ k lo hi. absurd (omega arith);
      here = λ k same. absurd (omega arith);
    }
