-- The values of output ports.
use Rattle.std.proofs.Common.{◌≡◌, ◌<◌, ◌≤◌, ◌-◌, ◌++◌, ℕ, zero, suc, Bool, true, false, List, [], ◌∷◌, length, length-append, map, take, drop, bytes_eq, codes, nat_eq, refl, sym, ap, ap₂, subst, inl, inr, ◌∙◌, arith}
use Rattle.std.specs.List.{AllByRecursion, starts_with}
use Rattle.std.proofs.lemmas.Bool.{cases_lt, false_from_ne_true}
use Rattle.std.proofs.lemmas.List.{get_or_append_left, map-append, length-map}
use Rattle.std.proofs.lemmas.Slice.Eq.{bytes_eq-Decides}
use Rattle.std.proofs.Math.Seq.{get_or-append_seam}
use Rattle.agm_net.specs.Formula.{xor}
use Rattle.agm_net.specs.Plain.{bit_names}
use Rattle.agm_net.specs.Role.{share_name, IsOfShare}
use Rattle.agm_net.specs.declared.port.Port.{Port}
use Rattle.share_wiring.specs.Adds.{random_bits}
use Rattle.share_wiring.specs.Built.{MayBeGiven}
use Rattle.share_wiring.specs.Networks.{Serves, IsServed}
use Rattle.share_wiring.specs.Recombine.{xor_below, xor_rows, recombined_rows, port_value}
use Rattle.share_wiring.specs.Own.{upto}
use Rattle.share_wiring.specs.Shape.{header_of}
use Rattle.share_wiring.specs.Wiring.{Wiring, IsSharing, net_of, share}
use Rattle.share_wiring.specs.declared.sharing.Sharing.{Sharing}
use Rattle.share_wiring.proofs.Ports.{bits_named}
use Rattle.share_wiring.proofs.Runs.{extends_trans}
use Rattle.share_wiring.proofs.ShapePorts.{same_width}
use Rattle.pipeline_balance.specs.declared.values.Value.{Value}
use Rattle.pipeline_balance.specs.declared.values.Value.TheVariants.{Public, Secret}
use Rattle.pipeline_balance.specs.Chained.{value_at, AreSources}
use Rattle.pipeline_balance.specs.Entering.{HasPublicBits}
use Rattle.pipeline_balance.specs.Leaving.{made_header, sharing_of, AreRowsLed, IsPortLed, AreSpread}
use Rattle.pipeline_balance.specs.Ports.{value_row}
use Rattle.pipeline_balance.specs.Shared.{shared, Makes}
use Rattle.pipeline_balance.specs.Valued.{is_secret, wires_of, IsValue, signal, Equals}
use Rattle.pipeline_balance.proofs.Adding.{adds_none, adds_then, adds_so, adds_of}
use Rattle.pipeline_balance.proofs.EnteringPorts.{of_one, not_public}
use Rattle.pipeline_balance.proofs.Making.{only_public, still}

-- ---- sharings, one after another

pub none_spread : (n : ℕ) (net : Wiring) (values : List (Value n)) (sharings : List (Sharing n)) → sharings ≡ [] → AreSpread n net net (take 0 values) sharings
none_spread n net values sharings none =
    subst (AreSpread n net net []) (sym none)
    (record { one_each = refl; each = λ j lt. absurd (omega arith); adds = adds_none net _ (λ cycles bits t lt. refl) })

sharing_front : (n : ℕ) (zs : List (Sharing n)) (z : Sharing n) (j : ℕ) → j < length zs → sharing_of (zs ++ z ∷ []) j ≡ sharing_of zs j
sharing_front n zs z j lt = ap (λ (y : Sharing n). y.shares) (get_or_append_left zs (z ∷ []) (record { shares = [] }) j lt)

sharing_last : (n : ℕ) (zs : List (Sharing n)) (z : Sharing n) → sharing_of (zs ++ z ∷ []) (length zs) ≡ z.shares
sharing_last n zs z = ap (λ (y : Sharing n). y.shares) (get_or-append_seam zs z [] (record { shares = [] }))

pub spread_more : (n : ℕ) (old now new : Wiring) (vs : List (Value n)) (zs : List (Sharing n)) (v : Value n) (z : Sharing n) → AreSpread n old now vs zs
    → Makes n now new n 0 0 z.shares (λ cycles bits. Equals cycles (signal n bits v) (shared n bits z.shares)) → AreSpread n old new (vs ++ v ∷ []) (zs ++ z ∷ [])
spread_more n old now new vs zs v z before made =
    let each = before.one_each in
    let one = length-append zs (z ∷ []) in
    let two = length-append vs (v ∷ []) in
    let extends = made.extends in
    let both = adds_then old now new 0 0 0 0 _ _ before.adds (adds_of n now new 0 0 z.shares _ made) in
    record {
      one_each = omega (arith, each, one, two);
      each = λ j lt. elim (cases_lt j (length zs)) [
        | inl early ↦ subst (IsSharing new.wires n) (sym (sharing_front n zs z j early)) (still n now new (sharing_of zs j) extends (before.each j early))
        | inr late ↦ (
            let last : j ≡ length zs = omega (arith, one, lt, late) in
            subst (IsSharing new.wires n) (sym (ap (sharing_of (zs ++ z ∷ [])) last ∙ sharing_last n zs z)) made.shares)
      ];
      adds = adds_so old new 0 0 0 0 _ _ refl refl
          (λ cycles bits facts t lt.
          map-append (λ (y : Sharing n). shared n bits y.shares t) zs (z ∷ [])
          ∙ (ap₂ (λ xs y. xs ++ y ∷ []) (facts.0 t lt) (facts.1 t lt) ∙ sym (map-append (λ u. signal n bits u t) vs (v ∷ []))))
          both;
    }

-- ---- what ports may be given

public_given : (n : ℕ) (net : Wiring) (name : List ℕ) (v : Value n) → IsValue n net v → is_secret v ≡ false → MayBeGiven net.wires name (share (wires_of v) 0)
public_given n net name (Public x) inside public = let is = only_public net x.shares inside in record { within = is.within; named = inl is.named }
public_given n net name (Secret x) inside public = absurd (cc)

pub publics_given : (n : ℕ) (net : Wiring) (name : List ℕ) (values : List (Value n)) → AreSources n net values → ((j : ℕ) → j < length values → is_secret (value_at values j) ≡ false)
    → AllByRecursion (MayBeGiven net.wires name) (map (λ v. share (wires_of v) 0) values)
publics_given n net name [] inside public = tt
publics_given n net name (v ∷ vs) inside public = (
  public_given n net name v (inside 0 (omega arith)) (public 0 (omega arith)),
  publics_given n net name vs (λ j lt. inside (suc j) (omega arith)) (λ j lt. public (suc j) (omega arith)),
)

pub shares_given : (n i : ℕ) (net : Wiring) (name : List ℕ) (zs : List (Sharing n)) → i < n → IsOfShare i name → ((j : ℕ) → j < length zs → IsSharing net.wires n (sharing_of zs j))
    → AllByRecursion (MayBeGiven net.wires name) (map (λ z. share z.shares i) zs)
shares_given n i net name [] below of inside = tt
shares_given n i net name (z ∷ zs) below of inside =
    let may = inside 0 (omega arith) i below in (
      record { within = may.within; named = elim may.named [ inl public ↦ inl public | inr secret ↦ inr (n - 1, i, of, secret.1) ] },
      shares_given n i net name zs below of (λ j lt. inside (suc j) (omega arith)),
    )

-- the wires of one share may stand for that share
pub shares_served : (n i : ℕ) (net : Wiring) (name : List ℕ) (zs : List (Sharing n)) → i < n → IsOfShare i name → ((j : ℕ) → j < length zs → IsSharing net.wires n (sharing_of zs j))
    → IsServed (n - 1) net.wires name (map (λ z. share z.shares i) zs)
shares_served n i net name zs below of inside j other = subst (λ k. (k ≤ n - 1) × AllByRecursion (Serves (n - 1) net.wires k) (map (λ z. share z.shares i) zs)) (of_one name i j of other) (omega (arith, below), each zs inside)
  where
    each : (ys : List (Sharing n)) → ((k : ℕ) → k < length ys → IsSharing net.wires n (sharing_of ys k)) → AllByRecursion (Serves (n - 1) net.wires i) (map (λ z. share z.shares i) ys)
    each [] are = tt
    each (y ∷ ys) are =
        let may = are 0 (omega arith) i below in
        (record { within = may.within; named = elim may.named [ inl public ↦ inl public | inr secret ↦ inr secret.1 ] }, each ys (λ k lt. are (suc k) (omega (arith, lt))))

-- a public port stands for no share
pub open_served : (d : ℕ) (net : Wiring) (name bits : List ℕ) → HasPublicBits name → IsServed d net.wires name bits
open_served d net name bits public i of = absurd (not_public name i of (public name (inl refl)))

pub of_share : (i : ℕ) (x : List ℕ) → i < 16 → 0 < length x → IsOfShare i (share_name i x)
of_share i x small some = (omega arith, inl (x, some, refl))

pub not_random : (name : List ℕ) → starts_with nat_eq name (codes "agm_") ≡ false → bytes_eq name (codes "agm_r") ≡ false
not_random name free = false_from_ne_true (bytes_eq name (codes "agm_r")) (λ is.
    let same = (bytes_eq-Decides name (codes "agm_r")).0 is in
    let no : true ≡ false = ap (λ x. starts_with nat_eq x (codes "agm_")) (sym same) ∙ free in cc)

-- ---- what ports have

xor_each : {X : Type 0} (g h : X → Bool) (xs : List X) → xor_rows (map g xs) (map h xs) ≡ map (λ x. xor (g x) (h x)) xs
xor_each g h [] = refl
xor_each g h (x ∷ xs) = ap (λ rest. xor (g x) (h x) ∷ rest) (xor_each g h xs)

rows_meet : {X : Type 0} (d : ℕ) (g : X → ℕ → Bool) (xs : List X) (row : ℕ → List Bool) → ((i : ℕ) → i < suc d → row i ≡ map (λ x. g x i) xs) → recombined_rows d row ≡ map (λ x. xor_below (suc d) (g x)) xs
rows_meet zero g xs row h = h 0 (omega arith)
rows_meet (suc d) g xs row h =
    ap₂ xor_rows (rows_meet d g xs row (λ i lt. h i (omega arith))) (h (suc d) (omega arith))
    ∙ xor_each (λ x. xor_below (suc d) (g x)) (λ x. g x (suc d)) xs

shares_meet : (n : ℕ) (zs : List (Sharing n)) (f : ℕ → Bool) (row : ℕ → List Bool) → 0 < n → ((i : ℕ) → i < n → row i ≡ map f (map (λ z. share z.shares i) zs))
    → recombined_rows (n - 1) row ≡ map (λ z. xor_below n (λ i. f (share z.shares i))) zs
shares_meet zero zs f row some h = absurd (omega arith)
shares_meet (suc d) zs f row some h =
    let one : suc d - 1 ≡ d = omega arith in
    ap (λ e. recombined_rows e row) one ∙ rows_meet d (λ z i. f (share z.shares i)) zs row (λ i lt. h i lt ∙ map_twice zs i)
  where
    map_twice : (ys : List (Sharing (suc d))) (i : ℕ) → map f (map (λ z. share z.shares i) ys) ≡ map (λ z. f (share z.shares i)) ys
    map_twice [] i = refl
    map_twice (y ∷ ys) i = ap (λ rest. f (share y.shares i) ∷ rest) (map_twice ys i)

-- the ports of shares have what their sharings recombine to
pub shared_led : (n place : ℕ) (p : Port) (values : List (Value n)) (sharings : List (Sharing n)) (old now new : Wiring) → 0 < n → n ≤ 16 → 0 < length p.name → AreSpread n old now values sharings
    → AreRowsLed place n (made_header true p) (λ i. map (λ z. share z.shares i) sharings) now new → IsPortLed n true p values place old new
shared_led n place p values sharings old now new some small long spread led =
    let ports = spread.adds.ports in
    let more = spread.adds.given in
    let count = spread.adds.begun in
    let none : now.gadgets ≡ old.gadgets = omega (arith, count) in
    let same : now.given ≡ old.given = omega (arith, more) in
    let served : (i : ℕ) → i < n → IsServed (n - 1) now.wires (share_name i p.name) (map (λ z. share z.shares i) sharings) =
    λ i lt. shares_served n i now (share_name i p.name) sharings lt (of_share i p.name (omega (arith, lt, small)) long) spread.each in
    record {
      extends = extends_trans old now new spread.adds.extends led.extends;
      complete = λ g h. (let mid = spread.adds.sound h.sound in record {
        begun = led.begun ∙ (none ∙ h.begun);
        sound = record { cells = led.cells mid.cells; network = led.network (n - 1) served mid.network };
        given = led.given ∙ (same ∙ (h.given ∙ (ap (λ ps. length (random_bits ps)) (sym ports) ∙ ap length (sym led.random))));
      });
      headers = led.headers ∙ ap (λ ps. take place (map header_of ps) ++ (upto n (made_header true p) ++ drop place (map header_of ps))) ports;
      keeps = λ name apart bit. led.keeps name apart bit ∙ ap (bits_named bit name) ports;
      told = λ cycles bits run. (
          let rows = led.told cycles bits run in
          let made = spread.adds.value cycles bits rows.0 in (
            made.0,
            λ t lt. shares_meet n sharings (bits t) (λ i. port_value (net_of new) (share_name i p.name) (bits t)) some (λ i below. rows.1 t lt i below) ∙ made.1 t lt,
          ));
    }

public_told : (n : ℕ) (bits : ℕ → ℕ → Bool) (t : ℕ) (v : Value n) → is_secret v ≡ false → bits t (share (wires_of v) 0) ≡ signal n bits v t
public_told n bits t (Public x) public = refl
public_told n bits t (Secret x) public = absurd (cc)

publics_told : (n : ℕ) (bits : ℕ → ℕ → Bool) (t : ℕ) (values : List (Value n)) → ((j : ℕ) → j < length values → is_secret (value_at values j) ≡ false)
    → map (bits t) (map (λ v. share (wires_of v) 0) values) ≡ value_row n bits t values
publics_told n bits t [] public = refl
publics_told n bits t (v ∷ vs) public = ap₂ (λ b bs. b ∷ bs) (public_told n bits t v (public 0 (omega arith))) (publics_told n bits t vs (λ j lt. public (suc j) (omega arith)))

-- and a public port has the bits of its values
pub public_led : (n place : ℕ) (p : Port) (values : List (Value n)) (old new : Wiring) → HasPublicBits p.name → ((j : ℕ) → j < length values → is_secret (value_at values j) ≡ false)
    → AreRowsLed place 1 (made_header false p) (λ i. map (λ v. share (wires_of v) 0) values) old new → IsPortLed n false p values place old new
public_led n place p values old new named public led = record {
  extends = led.extends;
  complete = λ g h. (let before = h.sound in record {
    begun = led.begun ∙ h.begun;
    sound = record { cells = led.cells before.cells; network = led.network (n - 1) (λ i lt. open_served (n - 1) old p.name _ named) before.network };
    given = led.given ∙ (h.given ∙ ap length (sym led.random));
  });
  headers = led.headers;
  keeps = led.keeps;
  told = λ cycles bits run. (
      let rows = led.told cycles bits run in
      (rows.0, λ t lt. rows.1 t lt 0 (omega arith) ∙ publics_told n bits t values public));
}

-- ---- the widths of rows

pub row_width : (n i : ℕ) (zs : List (Sharing n)) (p : Port) (name : List ℕ) → length zs ≡ length (bit_names p.name p.range) → length (map (λ z. share z.shares i) zs) ≡ length (bit_names name p.range)
row_width n i zs p name wide = length-map zs (λ z. share z.shares i) ∙ (wide ∙ (same_width p.name p.range ∙ sym (same_width name p.range)))
