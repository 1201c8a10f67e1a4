-- The names in which a share index is found.
use Rattle.std.proofs.Common.{◌≡◌, ◌<◌, ◌^◌, ◌==◌, ◌&&◌, ◌||◌, ◌++◌, ℕ, Bool, true, false, not, cond, List, [], ◌∷◌, Option, Some, None, length, take, drop, codes, get_or, nat_lt, eqb, refl, sym, ap, ap₂, ◌∙◌, subst, inl, inr, ⊎_elim, arith, true≢false, eqb-true, eq-eqb, option_map}
use Rattle.std.specs.Char.{is_digit, digit_value}
use Rattle.std.specs.Fmt.{decimal}
use Rattle.std.specs.List.{list_all, starts_with}
use Rattle.std.specs.Option.{option_map_or}
use Rattle.std.specs.Str.Parse.{AllDigits, digits_value}
use Rattle.std.proofs.lemmas.Bool.{and_parts, or_cases, ltb-true}
use Rattle.std.proofs.lemmas.Bool.Decides.{nat_tests}
use Rattle.std.proofs.lemmas.Fmt.{decimal_is_IsNumeral}
use Rattle.std.proofs.lemmas.List.{take-append-drop}
use Rattle.std.proofs.lemmas.Slice.Eq.{bytes_eq-Decides}
use Rattle.agm_net.specs.Role.{IsOfShare, share_name}
use Rattle.agm_net.proofs.ShareIndex.{HasNoLine, decimal_has_no_line, unpadded, written}
use Rattle.probe_cones.specs.Shares.{is_index, index_of, with_text, before_line, behind_line, is_share, share_of}
use Rattle.probe_cones.specs.Laws.{IsNamed}

all_digits : (ds : List ℕ) → list_all (λ b. is_digit b 10) ds ≡ true → AllDigits 10 ds
all_digits [] e = tt
all_digits (c ∷ cs) e = let both = and_parts (is_digit c 10) (list_all (λ b. is_digit b 10) cs) e in (ltb-true (digit_value c) 10 both.0, all_digits cs both.1)

alone : (c : ℕ) (cs : List ℕ) → (not (c == 48) || (length cs == 0)) ≡ true → c ≡ 48 → length (c ∷ cs) ≡ 1
alone c cs e is =
    ⊎_elim (λ (h : not (c == 48) ≡ true). absurd (true≢false (sym (subst (λ b. not b ≡ true) (eq-eqb c 48 is) h))))
    (λ h. let none = eqb-true (length cs) 0 h in omega arith) (or_cases (not (c == 48)) (length cs == 0) e)

pub index_text : (ds : List ℕ) (i : ℕ) → index_of ds ≡ Some i → (i < 2 ^ 32) × (ds ≡ decimal i)
index_text [] i e = absurd (let no : None ≡ Some i = e in cc)
index_text (c ∷ cs) i e = go (is_index (c ∷ cs)) refl e
  where
    go : (b : Bool) → is_index (c ∷ cs) ≡ b → cond b (Some (digits_value 10 (c ∷ cs))) None ≡ Some i → (i < 2 ^ 32) × ((c ∷ cs) ≡ decimal i)
    go false h e = absurd (let no : None ≡ Some i = e in cc)
    go true h e =
        let value : digits_value 10 (c ∷ cs) ≡ i = cc in
        let parts = and_parts (list_all (λ b. is_digit b 10) (c ∷ cs)) ((not (c == 48) || (length cs == 0)) && nat_lt (digits_value 10 (c ∷ cs)) (2 ^ 32)) h in
        let rest = and_parts (not (c == 48) || (length cs == 0)) (nat_lt (digits_value 10 (c ∷ cs)) (2 ^ 32)) parts.1 in
        let below = ltb-true (digits_value 10 (c ∷ cs)) (2 ^ 32) rest.1 in (
          subst (λ n. n < 2 ^ 32) value below,
          written (c ∷ cs) i (all_digits (c ∷ cs) parts.0) (sym value) (subst (λ n. n < 2 ^ 32) value below) (omega arith) (alone c cs rest.0),
        )

cut_at_line : (xs : List ℕ) → 0 < length (behind_line xs) → xs ≡ before_line xs ++ 95 ∷ behind_line xs
cut_at_line [] h = absurd (omega arith)
cut_at_line (c ∷ cs) h = go (c == 95) refl h (λ h. cut_at_line cs h)
  where
    go : (b : Bool) → (c == 95) ≡ b → 0 < length (cond b cs (behind_line cs)) → (0 < length (behind_line cs) → cs ≡ before_line cs ++ 95 ∷ behind_line cs) → (c ∷ cs) ≡ cond b [] (c ∷ before_line cs) ++ 95 ∷ cond b cs (behind_line cs)
    go true e h rest = ap (λ k. k ∷ cs) (eqb-true c 95 e)
    go false e h rest = ap (λ l. c ∷ l) (rest h)

begins : (name needle : List ℕ) → starts_with eqb name needle ≡ true → name ≡ needle ++ drop (length needle) name
begins name needle e = sym (take-append-drop (length needle) name) ∙ ap (λ l. l ++ drop (length needle) name) (sym ((bytes_eq-Decides needle (take (length needle) name)).0 e))

pub share_text : (name : List ℕ) (s : ℕ × List ℕ) → share_of name ≡ Some s → IsNamed name s
share_text name s e = port (starts_with eqb name (codes "agm_s")) refl e
  where
    state : (b : Bool) → starts_with eqb name (codes "agm_q_s") ≡ b → cond b (option_map {U = ℕ × List ℕ} (λ i. (i, [])) (index_of (drop 7 name))) None ≡ Some s → IsNamed name s
    state false h e = absurd (let no : None ≡ Some s = e in cc)
    state true h e = found (index_of (drop 7 name)) refl e
      where
        found : (o : Option ℕ) → index_of (drop 7 name) ≡ o → option_map {U = ℕ × List ℕ} (λ i. (i, [])) o ≡ Some s → IsNamed name s
        found None is e = absurd (let no : None ≡ Some s = e in cc)
        found (Some i) is e =
            let pair : (i, []) ≡ s = cc in
            let text = index_text (drop 7 name) i is in
            subst (IsNamed name) pair (text.0, inr (refl, begins name (codes "agm_q_s") h ∙ ap (λ l. codes "agm_q_s" ++ l) text.1))

    text_of : (h : starts_with eqb name (codes "agm_s") ≡ true) (o : Option ℕ) (x : List ℕ) → index_of (before_line (drop 5 name)) ≡ o → behind_line (drop 5 name) ≡ x → with_text o x ≡ Some s → IsNamed name s
    text_of h o [] is behind e = absurd (let no : None ≡ Some s = e in cc)
    text_of h None (c ∷ cs) is behind e = absurd (let no : None ≡ Some s = e in cc)
    text_of h (Some i) (c ∷ cs) is behind e =
        let pair : (i, c ∷ cs) ≡ s = cc in
        let text = index_text (before_line (drop 5 name)) i is in
        let long : 0 < length (behind_line (drop 5 name)) = subst (λ l. 0 < length l) (sym behind) (omega arith) in
        subst (IsNamed name) pair (
          text.0,
          inl (
            omega arith,
            begins name (codes "agm_s") h ∙ ap (λ l. codes "agm_s" ++ l) (cut_at_line (drop 5 name) long ∙ ap₂ (λ l r. l ++ 95 ∷ r) text.1 behind),
          ),
        )

    port : (b : Bool) → starts_with eqb name (codes "agm_s") ≡ b
        → cond b (with_text (index_of (before_line (drop 5 name))) (behind_line (drop 5 name))) (cond (starts_with eqb name (codes "agm_q_s")) (option_map {U = ℕ × List ℕ} (λ i. (i, [])) (index_of (drop 7 name))) None) ≡ Some s → IsNamed name s
    port true h e = text_of h (index_of (before_line (drop 5 name))) (behind_line (drop 5 name)) refl refl e
    port false h e = state (starts_with eqb name (codes "agm_q_s")) refl e

-- and each such name is found
below_true : (a b : ℕ) → a < b → nat_lt a b ≡ true
below_true a b h = grind (arith, nat_tests)

digits_true : (ds : List ℕ) → AllDigits 10 ds → list_all (λ b. is_digit b 10) ds ≡ true
digits_true [] h = refl
digits_true (c ∷ cs) h = ap₂ (λ a b. a && b) (below_true (digit_value c) 10 h.0) (digits_true cs h.1)

alone_true : (c : ℕ) (cs : List ℕ) → (c ≡ 48 → length (c ∷ cs) ≡ 1) → (not (c == 48) || (length cs == 0)) ≡ true
alone_true c cs h = go (c == 48) refl
  where
    go : (b : Bool) → (c == 48) ≡ b → (not b || (length cs == 0)) ≡ true
    go false e = refl
    go true e = let one = h (eqb-true c 48 e) in eq-eqb (length cs) 0 (omega arith)

index_true : (ds : List ℕ) (i : ℕ) → AllDigits 10 ds → 0 < length ds → (get_or ds 0 0 ≡ 48 → length ds ≡ 1) → digits_value 10 ds ≡ i → i < 2 ^ 32 → index_of ds ≡ Some i
index_true [] i all some first value small = absurd (omega arith)
index_true (c ∷ cs) i all some first value small =
    let below : digits_value 10 (c ∷ cs) < 2 ^ 32 = subst (λ n. n < 2 ^ 32) (sym value) small in
    ap (λ b. cond b (Some (digits_value 10 (c ∷ cs))) None)
    (ap₂ (λ a b. a && b) (digits_true (c ∷ cs) all) (ap₂ (λ a b. a && b) (alone_true c cs first) (below_true (digits_value 10 (c ∷ cs)) (2 ^ 32) below))) ∙
    ap (λ n. Some n) value

index_decimal : (i : ℕ) → i < 2 ^ 32 → index_of (decimal i) ≡ Some i
index_decimal i small =
    let numeral = decimal_is_IsNumeral i (omega arith) in
    let first = unpadded i small in
    index_true (decimal i) i numeral.0.1 first.0 first.1 numeral.1 small

cut_front : (front x : List ℕ) → HasNoLine front → (before_line (front ++ 95 ∷ x) ≡ front) × (behind_line (front ++ 95 ∷ x) ≡ x)
cut_front [] x h = (refl, refl)
cut_front (c ∷ cs) x h = go (c == 95) refl (cut_front cs x h.1)
  where
    go : (b : Bool) → (c == 95) ≡ b → (before_line (cs ++ 95 ∷ x) ≡ cs) × (behind_line (cs ++ 95 ∷ x) ≡ x)
        → (cond b [] (c ∷ before_line (cs ++ 95 ∷ x)) ≡ c ∷ cs) × (cond b (cs ++ 95 ∷ x) (behind_line (cs ++ 95 ∷ x)) ≡ x)
    go true e rest = absurd (h.0 (eqb-true c 95 e))
    go false e rest = (ap (λ l. c ∷ l) rest.0, rest.1)

port_found : (i : ℕ) (x : List ℕ) → i < 2 ^ 32 → 0 < length x → share_of (share_name i x) ≡ Some (i, x)
port_found i x small some =
    let cut = cut_front (decimal i) x (decimal_has_no_line i (omega arith)) in
    ap₂ with_text (ap index_of cut.0 ∙ index_decimal i small) cut.1 ∙ with_some x some
  where
    with_some : (x : List ℕ) → 0 < length x → with_text (Some i) x ≡ Some (i, x)
    with_some [] h = absurd (omega arith)
    with_some (c ∷ cs) h = refl

pub share_found : (name : List ℕ) (s : ℕ × List ℕ) → IsNamed name s → share_of name ≡ Some s
share_found name s (small, inl (some, is)) = ap share_of is ∙ port_found s.0 s.1 small some
share_found name s (small, inr (none, is)) =
    ap share_of is ∙ (ap (option_map {U = ℕ × List ℕ} (λ i. (i, []))) (index_decimal s.0 small) ∙ ap (λ x. Some (s.0, x)) (sym none))

-- what the role of a port says of its share index
pub role_share : (name : List ℕ) (i index : ℕ) → IsOfShare i name → is_share index name ≡ (i == index)
role_share name i index (small, inl (rest, some, e)) = ap (λ o. option_map_or (λ (s : ℕ × List ℕ). s.0 == index) o false) (share_found name (i, rest) (small, inl (some, e)))
role_share name i index (small, inr e) = ap (λ o. option_map_or (λ (s : ℕ × List ℕ). s.0 == index) o false) (share_found name (i, []) (small, inr (refl, e)))

pub role_none : (name : List ℕ) (index : ℕ) → ((i : ℕ) → IsOfShare i name → Prim.⊥) → is_share index name ≡ false
role_none name index none = go (share_of name) refl
  where
    go : (o : Option (ℕ × List ℕ)) → share_of name ≡ o → option_map_or (λ (s : ℕ × List ℕ). s.0 == index) o false ≡ false
    go None e = refl
    go (Some s) e = absurd (none s.0 (named (share_text name s e)))
      where
        named : IsNamed name s → IsOfShare s.0 name
        named (small, inl (some, is)) = (small, inl (s.1, some, is))
        named (small, inr (empty, is)) = (small, inr is)

pub not_clock : (name : List ℕ) (index : ℕ) → name ≡ codes "agm_clk" → is_share index name ≡ false
not_clock name index e = ap (is_share index) e

pub not_random : (name : List ℕ) (index : ℕ) → name ≡ codes "agm_r" → is_share index name ≡ false
not_random name index e = ap (is_share index) e
