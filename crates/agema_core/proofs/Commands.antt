-- Words are read as the command that they are.
use Rattle.std.proofs.Common.{◌≡◌, ◌≤◌, ◌<◌, ◌+◌, ◌-◌, ◌⊎◌, ◌++◌, ℕ, Bool, true, false, cond, ◌&&◌, List, [], ◌∷◌, drop, length, Option, Some, None, codes, refl, sym, ap, ◌∙◌, subst, arith, inl, inr, nat_le}
use Rattle.std.specs.Str.{bytes_eq}
use Rattle.std.specs.Fmt.{decimal}
use Rattle.hex.specs.Hex.{encode_lower}
use Rattle.std.proofs.lemmas.Fmt.{decimal_digit}
use Rattle.std.proofs.lemmas.Slice.Eq.{bytes_eq-Decides}
use Rattle.std.proofs.lemmas.Bool.Decides.{nat_tests}
use Rattle.share_wiring.specs.declared.report.Mode.{Mode}
use Rattle.share_wiring.specs.declared.report.Mode.TheVariants.{Naive, Aig, Bdd}
use Rattle.share_wiring.specs.declared.report.Balance.{Balance}
use Rattle.share_wiring.specs.declared.report.Balance.TheVariants.{Pipe, Gate}
use Rattle.masked_writer.specs.Report.{mode_text, balance_text}
use Rattle.agema_core.specs.Words.{Mask, Sim, IsOrder, IsMask, IsSim, Reporting, IsReporting, Auditing, IsAuditing, Probing, IsProbing, Comparing, IsComparing, Request, mask, sim, reporting, auditing, probing, comparing, Asks}
use Rattle.agema_core.specs.Command.{◌>>=◌, order_of, mode_of, balance_of, is_filled, are_names, parts_of, mask_request, audit_by, audit_request, cones_by, cones_request, sim_request, comparing_by, comparing_request, command_of}
use Rattle.agema_core.specs.Seed.{IsSeed, seed_of}
use Rattle.agema_core.proofs.Seeds as seeds

-- the two ways of a choice
chosen : {X : Type 0} (b : Bool) (x y z : X) → cond b x y ≡ z → ((b ≡ true) × (x ≡ z)) ⊎ ((b ≡ false) × (y ≡ z))
chosen true x y z h = inl (refl, h)
chosen false x y z h = inr (refl, h)

both : (a b : Bool) → a && b ≡ true → (a ≡ true) × (b ≡ true)
both true b h = (refl, h)
both false b h = cc

same_bytes : (xs ys : List ℕ) → bytes_eq xs ys ≡ true → xs ≡ ys
same_bytes xs ys h = (bytes_eq-Decides xs ys).0 h

bytes_same : (xs : List ℕ) → bytes_eq xs xs ≡ true
bytes_same xs = (bytes_eq-Decides xs xs).1 refl

filled_some : (word : List ℕ) → is_filled word ≡ true → 0 < length word
filled_some [] h = cc
filled_some (b ∷ bs) h = omega arith

some_filled : (word : List ℕ) → 0 < length word → is_filled word ≡ true
some_filled [] h = absurd (omega arith)
some_filled (b ∷ bs) h = grind (arith, nat_tests)

-- orders

pub order_read : (d : ℕ) → IsOrder d → order_of (decimal d) ≡ Some d
order_read d (low, high) =
    let one : decimal d ≡ (48 + d) ∷ [] = decimal_digit d (omega arith) in
    let test : nat_le 49 (48 + d) && nat_le (48 + d) 55 ≡ true = grind (arith, nat_tests) in
    let back : (48 + d) - 48 ≡ d = omega arith in
    ap order_of one ∙ rw test (ap (λ x. Some x) back)

pub read_order : (w : List ℕ) (d : ℕ) → order_of w ≡ Some d → IsOrder d × (w ≡ decimal d)
read_order [] d h = cc
read_order (b ∷ c ∷ bs) d h = cc
read_order (b ∷ []) d h = elim (chosen (nat_le 49 b && nat_le b 55) (Some (b - 48)) None (Some d) h) [
  | inl y ↦ (
      let low : 49 ≤ b = grind (arith, nat_tests) in
      let high : b ≤ 55 = grind (arith, nat_tests) in
      let same : b - 48 ≡ d = (let e = y.1 in cc) in
      let fits : IsOrder d = (omega arith, omega arith) in
      let byte : 48 + d ≡ b = omega arith in
      (fits, sym (decimal_digit d (omega arith) ∙ ap (λ x. x ∷ []) byte)))
  | inr n ↦ (let e = n.1 in cc)
]

-- modes and balances

mode_read : (m : Mode) → mode_of (mode_text m) ≡ Some m
mode_read Naive = refl
mode_read Aig = refl
mode_read Bdd = refl

read_mode : (w : List ℕ) (m : Mode) → mode_of w ≡ Some m → w ≡ mode_text m
read_mode w m h = elim (chosen (bytes_eq w (codes "naive")) (Some Naive) (cond (bytes_eq w (codes "aig")) (Some Aig) (cond (bytes_eq w (codes "bdd")) (Some Bdd) None)) (Some m) h) [
  | inl y ↦ (let same : Naive ≡ m = (let e = y.1 in cc) in same_bytes w (codes "naive") y.0 ∙ ap mode_text same)
  | inr n ↦ elim (chosen (bytes_eq w (codes "aig")) (Some Aig) (cond (bytes_eq w (codes "bdd")) (Some Bdd) None) (Some m) n.1) [
    | inl y ↦ (let same : Aig ≡ m = (let e = y.1 in cc) in same_bytes w (codes "aig") y.0 ∙ ap mode_text same)
    | inr o ↦ elim (chosen (bytes_eq w (codes "bdd")) (Some Bdd) None (Some m) o.1) [
      | inl y ↦ (let same : Bdd ≡ m = (let e = y.1 in cc) in same_bytes w (codes "bdd") y.0 ∙ ap mode_text same)
      | inr p ↦ (let e = p.1 in cc)
    ]
  ]
]

balance_read : (b : Balance) → balance_of (balance_text b) ≡ Some b
balance_read Pipe = refl
balance_read Gate = refl

read_balance : (w : List ℕ) (b : Balance) → balance_of w ≡ Some b → w ≡ balance_text b
read_balance w b h = elim (chosen (bytes_eq w (codes "pipe")) (Some Pipe) (cond (bytes_eq w (codes "gate")) (Some Gate) None) (Some b) h) [
  | inl y ↦ (let same : Pipe ≡ b = (let e = y.1 in cc) in same_bytes w (codes "pipe") y.0 ∙ ap balance_text same)
  | inr n ↦ elim (chosen (bytes_eq w (codes "gate")) (Some Gate) None (Some b) n.1) [
    | inl y ↦ (let same : Gate ≡ b = (let e = y.1 in cc) in same_bytes w (codes "gate") y.0 ∙ ap balance_text same)
    | inr o ↦ (let e = o.1 in cc)
  ]
]

-- what a step of reading gave, and what the next one did
bound : {A B : Type 0} (o : Option A) (f : A → Option B) (y : B) → (o >>= f) ≡ Some y → (x : A) × (o ≡ Some x) × (f x ≡ Some y)
bound None f y h = cc
bound (Some x) f y h = (x, refl, h)

abbrev with_order : (library net mode balance out : List ℕ) → ℕ → Option Mask
with_order library net mode balance out d = mode_of mode >>= (λ m. balance_of balance >>= (λ b. Some (record { library = library; net = net; order = d; mode = m; balance = b; out = out })))

abbrev with_mode : (library net balance out : List ℕ) → ℕ → Mode → Option Mask
with_mode library net balance out d m = balance_of balance >>= (λ b. Some (record { library = library; net = net; order = d; mode = m; balance = b; out = out }))

abbrev IsParts : (library net order mode balance out : List ℕ) → Mask → Type 0
IsParts library net order mode balance out m =
    (m.library ≡ library) × (m.net ≡ net) × (m.out ≡ out) × (order ≡ decimal m.order) × (mode ≡ mode_text m.mode) × (balance ≡ balance_text m.balance) × IsOrder m.order

read_parts : (library net order mode balance out : List ℕ) (m : Mask) → parts_of library net order mode balance out ≡ Some m → IsParts library net order mode balance out m
unfolding parts_of
read_parts library net order mode balance out m h =
    let d = bound (order_of order) (with_order library net mode balance out) m h in
    let v = bound (mode_of mode) (with_mode library net balance out d.0) m d.2 in
    let b = bound (balance_of balance) (λ b. Some (record { library = library; net = net; order = d.0; mode = v.0; balance = b; out = out })) m v.2 in
    let is : record { library = library; net = net; order = d.0; mode = v.0; balance = b.0; out = out } ≡ m = (let e = b.2 in cc) in
    let P : Mask → Type 0 = λ m. IsParts library net order mode balance out m in
    let o = read_order order d.0 d.1 in
    subst P is (refl, refl, refl, o.1, read_mode mode v.0 v.1, read_balance balance b.0 b.1, o.0)

parts_read : (m : Mask) → IsOrder m.order → parts_of m.library m.net (decimal m.order) (mode_text m.mode) (balance_text m.balance) m.out ≡ Some m
unfolding parts_of
parts_read m fits = rw (order_read m.order fits, mode_read m.mode, balance_read m.balance) refl

-- the words of a `mask` command are read as it
mask_read : (words : List (List ℕ)) (m : Mask) → IsMask words m → command_of words ≡ Some (mask m)
mask_read words m is =
    let library = some_filled m.library is.has_library in
    let net = some_filled m.net is.has_net in
    let out = some_filled m.out is.has_out in
    ap command_of is.words_are ∙ rw (library, net, out) (ap mask_request (parts_read m is.order_fits))

-- those of a `sim` command are read as it
sim_read : (words : List (List ℕ)) (s : Sim) → IsSim words s → command_of words ≡ Some (sim s)
sim_read words s is =
    let library = some_filled s.library is.has_library in
    let net = some_filled s.net is.has_net in
    let stimulus = some_filled s.stimulus is.has_stimulus in
    ap command_of is.words_are ∙ rw (library, net, stimulus) refl

-- those of a `report` command are read as it
report_read : (words : List (List ℕ)) (r : Reporting) → IsReporting words r → command_of words ≡ Some (reporting r)
report_read words r is = let out = some_filled r.out is.has_out in ap command_of is.words_are ∙ rw out refl

-- those of an `audit` command are read as it
audit_read : (words : List (List ℕ)) (a : Auditing) → IsAuditing words a → command_of words ≡ Some (auditing a)
audit_read words a is =
    let out = some_filled a.out is.has_out in
    ap command_of is.words_are ∙ rw out (ap (audit_by a.out) (order_read a.order is.order_fits))

-- those of a `cones` command are read as it
cones_read : (words : List (List ℕ)) (p : Probing) → IsProbing words p → command_of words ≡ Some (probing p)
cones_read words p is =
    let out = some_filled p.out is.has_out in
    let probes = some_filled p.probes is.has_probes in
    ap command_of is.words_are ∙ rw (out, probes) (ap (cones_by p.out p.probes) (order_read p.order is.order_fits))

-- those of a `both` command are read as it
both_read : (words : List (List ℕ)) (c : Comparing) → IsComparing words c → command_of words ≡ Some (comparing c)
both_read words c is =
    let m = c.masking in
    let masks = is.is_mask in
    let head : is.head ≡ m.library ∷ m.net ∷ decimal m.order ∷ mode_text m.mode ∷ balance_text m.balance ∷ m.out ∷ [] = ap (drop 1) masks.words_are in
    let all : words ≡ codes "both" ∷ m.library ∷ m.net ∷ decimal m.order ∷ mode_text m.mode ∷ balance_text m.balance ∷ m.out ∷ c.stimulus ∷ encode_lower c.seed ∷ [] =
    is.words_are ∙ ap (λ h. codes "both" ∷ (h ++ c.stimulus ∷ encode_lower c.seed ∷ [])) head in
    let library = some_filled m.library masks.has_library in
    let net = some_filled m.net masks.has_net in
    let out = some_filled m.out masks.has_out in
    let stimulus = some_filled c.stimulus is.has_stimulus in
    ap command_of all
    ∙ rw (library, net, out)
    (rw stimulus
    (ap (λ o. comparing_by c.stimulus o (seed_of (encode_lower c.seed))) (parts_read m masks.order_fits)
    ∙ ap (λ o. comparing_by c.stimulus (Some m) o) (seeds.seed_read c.seed is.seed_fits)))

pub command_read : (words : List (List ℕ)) (r : Request) → Asks words r → command_of words ≡ Some r
command_read words (mask m) is = mask_read words m is
command_read words (sim s) is = sim_read words s is
command_read words (reporting r) is = report_read words r is
command_read words (auditing a) is = audit_read words a is
command_read words (probing p) is = cones_read words p is
command_read words (comparing c) is = both_read words c is

-- what names that are none is not empty
names_are : (own command first second third : List ℕ) → are_names own command first second third ≡ true
    → (command ≡ own) × (0 < length first) × (0 < length second) × (0 < length third)
names_are own command first second third h =
    let one = both (bytes_eq command own) (is_filled first && (is_filled second && is_filled third)) h in
    let two = both (is_filled first) (is_filled second && is_filled third) one.1 in
    let three = both (is_filled second) (is_filled third) two.1 in
    (same_bytes command own one.0, filled_some first two.0, filled_some second three.0, filled_some third three.1)

request_some : (o : Option Mask) (r : Request) → mask_request o ≡ Some r → (m : Mask) × (o ≡ Some m) × (mask m ≡ r)
request_some None r h = cc
request_some (Some m) r h = (m, refl, cc)

audit_some : (out : List ℕ) (o : Option ℕ) (r : Request) → audit_by out o ≡ Some r → (d : ℕ) × (o ≡ Some d) × (auditing (record { out = out; order = d }) ≡ r)
audit_some out None r h = cc
audit_some out (Some d) r h = (d, refl, cc)

cones_some : (out probes : List ℕ) (o : Option ℕ) (r : Request) → cones_by out probes o ≡ Some r → (d : ℕ) × (o ≡ Some d) × (probing (record { out = out; order = d; probes = probes }) ≡ r)
cones_some out probes None r h = cc
cones_some out probes (Some d) r h = (d, refl, cc)

-- four words that are read as a `sim` command
sim_asked : (command library net stimulus : List ℕ) (r : Request) → sim_request command library net stimulus ≡ Some r → Asks (command ∷ library ∷ net ∷ stimulus ∷ []) r
sim_asked command library net stimulus r h =
    elim (chosen (are_names (codes "sim") command library net stimulus) (Some (sim (record { library = library; net = net; stimulus = stimulus }))) None (Some r) h) [
      | inl y ↦ (
          let names = names_are (codes "sim") command library net stimulus y.0 in
          let s : Sim = record { library = library; net = net; stimulus = stimulus } in
          let same : sim s ≡ r = (let e = y.1 in cc) in
          let is : IsSim (command ∷ library ∷ net ∷ stimulus ∷ []) s = record {
            words_are = (let w = names.0 in cc);
            has_library = names.1;
            has_net = names.2;
            has_stimulus = names.3;
          } in
          subst (Asks (command ∷ library ∷ net ∷ stimulus ∷ [])) same is)
      | inr n ↦ (let e = n.1 in cc)
    ]

-- four words that are read as a `cones` command
cones_asked : (command out order probes : List ℕ) (r : Request) → bytes_eq command (codes "cones") ≡ true → cones_request out order probes ≡ Some r → Asks (command ∷ out ∷ order ∷ probes ∷ []) r
cones_asked command out order probes r own h =
    elim (chosen (is_filled out && is_filled probes) (cones_by out probes (order_of order)) None (Some r) h) [
      | inl y ↦ (
          let parts = both (is_filled out) (is_filled probes) y.0 in
          let found = cones_some out probes (order_of order) r y.1 in
          let fits = read_order order found.0 found.1 in
          let is : IsProbing (command ∷ out ∷ order ∷ probes ∷ []) (record { out = out; order = found.0; probes = probes }) = record {
            words_are = (let w = same_bytes command (codes "cones") own in let d = fits.1 in cc);
            order_fits = fits.0;
            has_out = filled_some out parts.0;
            has_probes = filled_some probes parts.1;
          } in
          subst (Asks (command ∷ out ∷ order ∷ probes ∷ [])) found.2 is)
      | inr n ↦ (let e = n.1 in cc)
    ]

comparing_some : (stimulus : List ℕ) (o : Option Mask) (s : Option (List ℕ)) (r : Request) → comparing_by stimulus o s ≡ Some r
    → (m : Mask) × (seed : List ℕ) × (o ≡ Some m) × (s ≡ Some seed) × (comparing (record { masking = m; stimulus = stimulus; seed = seed }) ≡ r)
comparing_some stimulus None s r h = cc
comparing_some stimulus (Some m) None r h = cc
comparing_some stimulus (Some m) (Some seed) r h = (m, seed, refl, refl, cc)

-- a mask that is read, of names that are not empty
mask_is : (library net order mode balance out : List ℕ) (m : Mask) → IsParts library net order mode balance out m → 0 < length library → 0 < length net → 0 < length out
    → IsMask (codes "mask" ∷ library ∷ net ∷ order ∷ mode ∷ balance ∷ out ∷ []) m
mask_is library net order mode balance out m p has_library has_net has_out = record {
  words_are = (let a = p.0 in let b = p.1 in let c = p.2 in let d = p.3 in let e = p.4 in let f = p.5 in cc);
  order_fits = p.6;
  has_library = rw p.0 has_library;
  has_net = rw p.1 has_net;
  has_out = rw p.2 has_out;
}

-- nine words that are read as a `both` command
both_asked : (library net order mode balance out stimulus seed : List ℕ) (r : Request) → 0 < length library → 0 < length net → 0 < length out
    → comparing_request (parts_of library net order mode balance out) stimulus seed ≡ Some r → Asks (codes "both" ∷ library ∷ net ∷ order ∷ mode ∷ balance ∷ out ∷ stimulus ∷ seed ∷ []) r
both_asked library net order mode balance out stimulus seed r has_library has_net has_out h =
    elim (chosen (is_filled stimulus) (comparing_by stimulus (parts_of library net order mode balance out) (seed_of seed)) None (Some r) h) [
      | inl y ↦ (
          let found = comparing_some stimulus (parts_of library net order mode balance out) (seed_of seed) r y.1 in
          let m = found.0 in
          let spelled = seeds.read_seed seed found.1 found.3 in
          let head = library ∷ net ∷ order ∷ mode ∷ balance ∷ out ∷ [] in
          let is : IsComparing (codes "both" ∷ library ∷ net ∷ order ∷ mode ∷ balance ∷ out ∷ stimulus ∷ seed ∷ []) (record { masking = m; stimulus = stimulus; seed = found.1 }) = record {
            head = head;
            is_mask = mask_is library net order mode balance out m (read_parts library net order mode balance out m found.2) has_library has_net has_out;
            words_are = ap (λ s. codes "both" ∷ (head ++ stimulus ∷ s ∷ [])) spelled.1;
            has_stimulus = filled_some stimulus y.0;
            seed_fits = spelled.0;
          } in
          subst (Asks (codes "both" ∷ library ∷ net ∷ order ∷ mode ∷ balance ∷ out ∷ stimulus ∷ seed ∷ [])) found.4 is)
      | inr n ↦ (let e = n.1 in cc)
    ]

-- what is read is what the words ask for
pub read_command : (words : List (List ℕ)) (r : Request) → command_of words ≡ Some r → Asks words r
read_command (command ∷ library ∷ net ∷ order ∷ mode ∷ balance ∷ out ∷ []) r h =
    elim (chosen (are_names (codes "mask") command library net out) (mask_request (parts_of library net order mode balance out)) None (Some r) h) [
      | inl y ↦ (
          let found = request_some (parts_of library net order mode balance out) r y.1 in
          let m = found.0 in
          let p = read_parts library net order mode balance out m found.1 in
          let names = names_are (codes "mask") command library net out y.0 in
          let is : IsMask (command ∷ library ∷ net ∷ order ∷ mode ∷ balance ∷ out ∷ []) m = record {
            words_are = (let w = names.0 in let a = p.0 in let b = p.1 in let c = p.2 in let d = p.3 in let e = p.4 in let f = p.5 in cc);
            order_fits = p.6;
            has_library = rw p.0 names.1;
            has_net = rw p.1 names.2;
            has_out = rw p.2 names.3;
          } in
          subst (Asks (command ∷ library ∷ net ∷ order ∷ mode ∷ balance ∷ out ∷ [])) found.2 is)
      | inr n ↦ (let e = n.1 in cc)
    ]
read_command (command ∷ library ∷ net ∷ order ∷ mode ∷ balance ∷ out ∷ stimulus ∷ seed ∷ []) r h =
    elim (chosen (are_names (codes "both") command library net out) (comparing_request (parts_of library net order mode balance out) stimulus seed) None (Some r) h) [
      | inl y ↦ (
          let names = names_are (codes "both") command library net out y.0 in
          subst (λ word. Asks (word ∷ library ∷ net ∷ order ∷ mode ∷ balance ∷ out ∷ stimulus ∷ seed ∷ []) r) (sym names.0)
          (both_asked library net order mode balance out stimulus seed r names.1 names.2 names.3 y.1))
      | inr n ↦ (let e = n.1 in cc)
    ]
read_command (command ∷ first ∷ second ∷ third ∷ []) r h =
    elim (chosen (bytes_eq command (codes "cones")) (cones_request first second third) (sim_request command first second third) (Some r) h) [
      | inl y ↦ cones_asked command first second third r y.0 y.1
      | inr n ↦ sim_asked command first second third r n.1
    ]
read_command (command ∷ out ∷ order ∷ []) r h =
    elim (chosen (bytes_eq command (codes "audit") && is_filled out) (audit_by out (order_of order)) None (Some r) h) [
      | inl y ↦ (
          let parts = both (bytes_eq command (codes "audit")) (is_filled out) y.0 in
          let found = audit_some out (order_of order) r y.1 in
          let fits = read_order order found.0 found.1 in
          let is : IsAuditing (command ∷ out ∷ order ∷ []) (record { out = out; order = found.0 }) = record {
            words_are = (let w = same_bytes command (codes "audit") parts.0 in let d = fits.1 in cc);
            order_fits = fits.0;
            has_out = filled_some out parts.1;
          } in
          subst (Asks (command ∷ out ∷ order ∷ [])) found.2 is)
      | inr n ↦ (let e = n.1 in cc)
    ]
read_command (command ∷ out ∷ []) r h =
    elim (chosen (bytes_eq command (codes "report") && is_filled out) (Some (reporting (record { out = out }))) None (Some r) h) [
      | inl y ↦ (
          let parts = both (bytes_eq command (codes "report")) (is_filled out) y.0 in
          let t : Reporting = record { out = out } in
          let same : reporting t ≡ r = (let e = y.1 in cc) in
          let is : IsReporting (command ∷ out ∷ []) t = record {
            words_are = ap (λ w. w ∷ out ∷ []) (same_bytes command (codes "report") parts.0);
            has_out = filled_some out parts.1;
          } in
          subst (Asks (command ∷ out ∷ [])) same is)
      | inr n ↦ (let e = n.1 in cc)
    ]
read_command _ r h = cc

-- words are one command at most
pub one_command : (words : List (List ℕ)) (p q : Request) → Asks words p → Asks words q → p ≡ q
one_command words p q a b = let c = command_read words p a in let d = command_read words q b in cc
