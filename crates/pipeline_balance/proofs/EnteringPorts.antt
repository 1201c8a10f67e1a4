-- The values of the bits of input ports.
use Rattle.std.proofs.Common.{◌≡◌, ◌<◌, ◌≤◌, ◌-◌, ◌^◌, ◌++◌, ℕ, zero, suc, Bool, true, false, List, [], ◌∷◌, Option, None, Some, length, map, replicate, codes, get_or, slice_get, refl, sym, ap, ap₂, subst, inl, inr, ◌∙◌, arith}
use Rattle.std.specs.Prelude.{nat_le}
use Rattle.std.specs.Int.{abs_diff}
use Rattle.std.specs.List.{AllByRecursion}
use Rattle.std.proofs.lemmas.Bool.{cases_lt, cases_Bool, leb-false}
use Rattle.std.proofs.lemmas.Option.{get_or_from_slice_get, slice_get_within}
use Rattle.agm_net.specs.Checks.{number_at}
use Rattle.agm_net.specs.Label.{IsBitOf, IsPublic, IsShareName}
use Rattle.agm_net.specs.Plain.{PlainNet, bit_names}
use Rattle.agm_net.specs.Role.{IsOfShare}
use Rattle.agm_net.specs.Trace.{Row}
use Rattle.agm_net.specs.declared.port.Range.{Range}
use Rattle.agm_net.proofs.Lists.{all_places}
use Rattle.agm_net.proofs.OneLabel.{IsIn, share_form, one_share, one_family, no_user, public_in, random_in, form_in}
use Rattle.agm_net.proofs.Named.{length-names, name-at}
use Rattle.share_wiring.specs.Built.{IsSmallRange}
use Rattle.share_wiring.specs.Networks.{FitsOrder}
use Rattle.share_wiring.specs.Own.{upto}
use Rattle.share_wiring.specs.Recombine.{port_value, recombined_rows, xor_rows}
use Rattle.share_wiring.specs.Shape.{header_of}
use Rattle.share_wiring.specs.Wiring.{Wiring, MayBeShare, name_at, share}
use Rattle.share_wiring.proofs.Lists.{all_front, all_back}
use Rattle.share_wiring.proofs.OwnWires.{map-upto, get-upto, all_upto}
use Rattle.share_wiring.proofs.ShapePorts.{same_width}
use Rattle.pipeline_balance.specs.declared.values.Value.{Value}
use Rattle.pipeline_balance.specs.Ports.{input_header, input_port, row_of, input_ports, AreEntered, public_value, secret_value, value_row}
use Rattle.pipeline_balance.specs.Valued.{is_secret, IsValue}
use Rattle.pipeline_balance.specs.Entering.{IsOwn, Enters, HasPublicBits, named_headers, shared_row}
use Rattle.pipeline_balance.proofs.Families.{all_images}

-- ---- the name of a port's bit

number_below : (msb lsb i : ℕ) → msb ≤ 65535 → lsb ≤ 65535 → i ≤ abs_diff msb lsb → number_at msb lsb i < 2 ^ 32
number_below msb lsb i hm hl le =
    elim (cases_Bool (nat_le lsb msb)) [ inl down ↦ rw down (omega arith) | inr up ↦ (let more = leb-false lsb msb up in rw up (omega arith)) ]

pub is_bit_of : (name : List ℕ) (range : Option Range) → IsSmallRange range → (j : ℕ) → j < length (bit_names name range) → IsBitOf name (get_or (bit_names name range) j [])
is_bit_of name None small zero lt = inl refl
is_bit_of name None small (suc j) lt = absurd (omega arith)
is_bit_of name (Some r) small j lt =
    let many = length-names name r in
    let le : j ≤ abs_diff r.msb r.lsb = omega (arith, many, lt) in
    inr (number_at r.msb r.lsb j, number_below r.msb r.lsb j small.0 small.1 le, name-at name r j le)

-- ---- lists

one_upto : {X : Type 0} (P : X → Type 0) (n : ℕ) (f : ℕ → X) → AllByRecursion P (upto n f) → (i : ℕ) → i < n → P (f i)
one_upto P zero f h i lt = absurd (omega arith)
one_upto P (suc n) f h i lt =
    elim (cases_lt i n) [
      | inl early ↦ one_upto P n f (all_front P (upto n f) (f n ∷ []) h) i early
      | inr late ↦ (let here : i ≡ n = omega (arith, lt, late) in subst (λ k. P (f k)) (sym here) (all_back P (upto n f) (f n ∷ []) h).0)
    ]

one_behind : {X : Type 0} (n : ℕ) (x : X) → replicate n x ++ x ∷ [] ≡ x ∷ replicate n x
one_behind zero x = refl
one_behind (suc n) x = ap (λ xs. x ∷ xs) (one_behind n x)

always : {X : Type 0} (n : ℕ) (x : X) → upto n (λ i. x) ≡ replicate n x
always zero x = refl
always (suc n) x = ap (λ xs. xs ++ x ∷ []) (always n x) ∙ one_behind n x

public_kinds : (n : ℕ) (ws : List ℕ) → map (is_secret {n = n}) (map public_value ws) ≡ replicate (length ws) false
public_kinds n [] = refl
public_kinds n (w ∷ ws) = ap (λ ks. false ∷ ks) (public_kinds n ws)

-- rows that agree recombine to the same
pub rows_agree : (d : ℕ) (f g : ℕ → Row) → ((i : ℕ) → i ≤ d → f i ≡ g i) → recombined_rows d f ≡ recombined_rows d g
rows_agree zero f g h = h 0 (omega arith)
rows_agree (suc d) f g h = ap₂ xor_rows (rows_agree d f g (λ i le. h i (omega arith))) (h (suc d) (omega arith))

-- ---- the order of a net

-- the name of a port with a share is one of that share
shared_name : (i : ℕ) (name : List ℕ) → IsOfShare i name → IsShareName i name
shared_name i name of = inl (name, of, inl refl)

shared_in : (i : ℕ) (name : List ℕ) → IsOfShare i name → IsIn 4 name
shared_in i name of = form_in i name (share_form i name (shared_name i name of))

-- and of no other
pub of_one : (name : List ℕ) (i j : ℕ) → IsOfShare i name → IsOfShare j name → i ≡ j
of_one name i j p q = one_share i j name (shared_name i name p) (shared_name j name q)

pub share_fits : (d i : ℕ) (name : List ℕ) → i ≤ d → IsOfShare i name → FitsOrder d name
share_fits d i name le of j other = let same = of_one name i j of other in omega (arith, le, same)

-- the name of a port of public bits is of none
pub not_public : (name : List ℕ) (i : ℕ) → IsOfShare i name → IsPublic name → Prim.⊥
not_public name i of (inl public) = let two : ◌≡◌ {A = ℕ} 2 4 = one_family 2 4 name (public_in name public) (shared_in i name of) in absurd (omega (arith, two))
not_public name i of (inr user) = no_user 4 name user (shared_in i name of)

pub open_fits : (d : ℕ) (name : List ℕ) → HasPublicBits name → FitsOrder d name
open_fits d name public i of = absurd (not_public name i of (public name (inl refl)))

-- and that of the random bits
pub random_fits : (d : ℕ) → FitsOrder d (codes "agm_r")
random_fits d i of = let three : ◌≡◌ {A = ℕ} 3 4 = one_family 3 4 (codes "agm_r") (random_in (codes "agm_r") (inl refl)) (shared_in i (codes "agm_r") of) in absurd (omega (arith, three))

-- ---- a public port

module _ (n : ℕ) (old now : Wiring) (name : List ℕ) (range : Option Range) (small : IsSmallRange range) (bits : List ℕ) (entered : AreEntered range (name ∷ []) old now 1 (bits ∷ [])) where
  public_source : HasPublicBits name → (j w : ℕ) → slice_get bits j ≡ Some w → IsValue n now (public_value w)
  public_source public j w at zero lt =
      let within = slice_get_within bits j w at in
      let is : share bits j ≡ w = get_or_from_slice_get bits j w 0 at in
      let wide = entered.wide 0 (omega arith) in
      record {
        within = subst (λ v. v < length now.wires) is (entered.within 0 j (omega arith) within);
        named = inl (public (name_at now.wires w)
            (subst (IsBitOf name) (sym (ap (name_at now.wires) (sym is) ∙ entered.named 0 j (omega arith) within)) (is_bit_of name range small j (omega (arith, within, wide)))));
      }
  public_source public j w at (suc i) lt = absurd (omega arith)

  pub public_enters : HasPublicBits name → ((bit : ℕ → ℕ → Bool) (t : ℕ) → map (bit t) bits ≡ value_row n bit t (map public_value bits))
      → Enters n old now (input_header range name ∷ []) (replicate (length (bit_names name range)) false) (λ net bit. port_value net name bit) (map public_value bits)
  public_enters public told = record {
    made = input_port range name bits ∷ [];
    ports = entered.ports;
    headers_are = refl;
    extends = entered.extends;
    sources = all_images (IsValue n now) public_value bits (all_places (λ w. IsValue n now (public_value w)) bits (public_source public));
    kinds_are = public_kinds n bits ∙ ap (λ k. replicate k false) (entered.wide 0 (omega arith));
    told = λ net own bit t. own.0 (bit t) ∙ told bit t;
    begun = entered.begun;
    given = entered.given;
    sound = λ h. record { cells = entered.cells h.cells; network = entered.network (n - 1) one_open h.network };
  }
    where
      one_open : (i : ℕ) → i < 1 → FitsOrder (n - 1) (row_of (name ∷ []) i)
      one_open zero lt = open_fits (n - 1) name public
      one_open (suc i) lt = absurd (omega (arith, lt))

-- ---- a port for each share

module _ (n : ℕ) (old now : Wiring) (names : List (List ℕ)) (range : Option Range) (small : IsSmallRange range) (rows : List (List ℕ)) (many : 2 ≤ n) (each : length names ≡ n) (entered : AreEntered range names old now n rows) where
  wide_as : (i : ℕ) → i < n → length (row_of rows i) ≡ length (bit_names [] range)
  wide_as i lt = entered.wide i lt ∙ same_width (row_of names i) range

  pub wide_alike : (i : ℕ) → i < n → length (row_of rows i) ≡ length (row_of rows 0)
  wide_alike i lt = wide_as i lt ∙ sym (wide_as 0 (omega arith))

  secret_source : ((i : ℕ) → i < n → IsOfShare i (row_of names i)) → (j : ℕ) → j < length (row_of rows 0) → IsValue n now (secret_value n rows j)
  secret_source shares j below i lt =
      let long = wide_alike i lt in
      let inside : j < length (row_of rows i) = omega (arith, long, below) in
      let wide = entered.wide i lt in
      subst (MayBeShare now.wires n i) (sym (get-upto n i (λ k. share (row_of rows k) j) 0 lt))
      (record {
        within = entered.within i j lt inside;
        named = inr (
          (λ one. (let same = one in omega (arith, same, many))),
          inl (inl (
            row_of names i,
            shares i lt,
            subst (IsBitOf (row_of names i)) (sym (entered.named i j lt inside)) (is_bit_of (row_of names i) range small j (omega (arith, inside, wide))),
          )),
        );
      })

  shared_told : (values : List (Value n)) → ((bit : ℕ → ℕ → Bool) (t : ℕ) → recombined_rows (n - 1) (λ i. map (bit t) (row_of rows i)) ≡ value_row n bit t values)
      → (net : PlainNet) → AllByRecursion (IsOwn net) (input_ports range names rows n) → (bit : ℕ → ℕ → Bool) (t : ℕ) → shared_row n names net (bit t) ≡ value_row n bit t values
  shared_told values told net own bit t =
      rows_agree (n - 1) (λ i. port_value net (row_of names i) (bit t)) (λ i. map (bit t) (row_of rows i))
      (λ i le. one_upto (IsOwn net) n (λ k. input_port range (row_of names k) (row_of rows k)) own i (omega (arith, le, many)) (bit t))
      ∙ told bit t

  pub shared_enters : (values : List (Value n)) → ((i : ℕ) → i < n → IsOfShare i (row_of names i)) → (values ≡ upto (length (row_of rows 0)) (secret_value n rows))
      → ((bit : ℕ → ℕ → Bool) (t : ℕ) → recombined_rows (n - 1) (λ i. map (bit t) (row_of rows i)) ≡ value_row n bit t values)
      → Enters n old now (named_headers range names) (replicate (length (bit_names [] range)) true) (shared_row n names) values
  shared_enters values shares are told = record {
    made = input_ports range names rows n;
    ports = entered.ports;
    headers_are = map-upto header_of n (λ i. input_port range (row_of names i) (row_of rows i)) ∙ ap (λ k. upto k (λ i. input_header range (row_of names i))) (sym each);
    extends = entered.extends;
    sources = subst (AllByRecursion (IsValue n now)) (sym are) (all_upto (IsValue n now) (length (row_of rows 0)) (secret_value n rows) (secret_source shares));
    kinds_are =
        ap (map is_secret) are
        ∙ (map-upto is_secret (length (row_of rows 0)) (secret_value n rows)
        ∙ (always (length (row_of rows 0)) true ∙ ap (λ k. replicate k true) (wide_as 0 (omega arith))));
    told = shared_told values told;
    begun = entered.begun;
    given = entered.given;
    sound = λ h. record { cells = entered.cells h.cells; network = entered.network (n - 1) (λ i lt. share_fits (n - 1) i (row_of names i) (omega (arith, lt)) (shares i lt)) h.network };
  }
