-- Single tokens: what is read stands there, and what stands there is read.
use Rattle.std.proofs.Common.{◌≡◌, ◌≤◌, ◌&&◌, ◌⊎◌, ℕ, Bool, true, false, cond, nat_le, drop, List, [], ◌∷◌, Option, Some, None, refl, ap, ◌∙◌, inl, inr, arith}
use Rattle.std.specs.Str.{bytes_eq}
use Rattle.std.proofs.lemmas.Bool.Decides.{nat_tests}
use Rattle.std.proofs.lemmas.Slice.Eq.{bytes_eq-Decides}
use Rattle.verilog_tokens.specs.Token.{Token, Name, Key, Number, Constant, Text, Symbol, Open, Close, Stray}
use Rattle.verilog_reader.specs.Reading.{Read, ◌>>=◌, begins, begins_key, symbol_at, key_at, open_at, close_at, ident_at, with_rest, limited, number_at}

-- a value with the tokens behind it
abbrev pub hit : {X : Type 0} → X → List Token → Read X
hit x rest = Some (x, rest)

-- the branch that a test chose
pub chosen : {X : Type 0} (b : Bool) (x y z : X) → cond b x y ≡ z → ((b ≡ true) × (x ≡ z)) ⊎ ((b ≡ false) × (y ≡ z))
chosen true x y z h = inl (refl, h)
chosen false x y z h = inr (refl, h)

-- where two steps give a value, the first does
pub bind_some : {A B : Type 0} (o : Option A) (f : A → Option B) (y : B) → (o >>= f) ≡ Some y → (x : A) × (o ≡ Some x) × (f x ≡ Some y)
bind_some (Some x) f y h = (x, refl, h)
bind_some None f y h = absurd (cc)

-- the parts of a value with its rest
pub got : {X : Type 0} (x : X) (rest : List Token) (y : X × List Token) → hit x rest ≡ Some y → (x ≡ y.0) × (rest ≡ y.1)
got {X} x rest y h =
    let u : X × List Token = (x, rest) in
    let e : u ≡ y = cc in
    (ap (λ (p : X × List Token). p.0) e, ap (λ (p : X × List Token). p.1) e)

-- bytes that the test takes for the same are the same
pub same_bytes : (a b : List ℕ) → bytes_eq a b ≡ true → a ≡ b
same_bytes a b h = (bytes_eq-Decides a b).0 h

-- bytes are the same as themselves
pub bytes_same : (a : List ℕ) → bytes_eq a a ≡ true
bytes_same a = (bytes_eq-Decides a a).1 refl

-- a symbol in front
pub begins_is : (s : ℕ) (ts : List Token) → begins s ts ≡ true → ts ≡ Symbol s ∷ drop 1 ts
begins_is s (Symbol c ∷ ts) h = let same : c ≡ s = grind (arith, nat_tests) in ap (λ d. Symbol d ∷ ts) same
begins_is s [] h = absurd (cc)
begins_is s (Name n ∷ ts) h = absurd (cc)
begins_is s (Key n ∷ ts) h = absurd (cc)
begins_is s (Number n ∷ ts) h = absurd (cc)
begins_is s (Constant n ∷ ts) h = absurd (cc)
begins_is s (Text n ∷ ts) h = absurd (cc)
begins_is s (Open ∷ ts) h = absurd (cc)
begins_is s (Close ∷ ts) h = absurd (cc)
begins_is s (Stray ∷ ts) h = absurd (cc)

-- a key in front
pub begins_key_is : (word : List ℕ) (ts : List Token) → begins_key word ts ≡ true → ts ≡ Key word ∷ drop 1 ts
begins_key_is word (Key k ∷ ts) h = ap (λ d. Key d ∷ ts) (same_bytes k word h)
begins_key_is word [] h = absurd (cc)
begins_key_is word (Symbol c ∷ ts) h = absurd (cc)
begins_key_is word (Name n ∷ ts) h = absurd (cc)
begins_key_is word (Number n ∷ ts) h = absurd (cc)
begins_key_is word (Constant n ∷ ts) h = absurd (cc)
begins_key_is word (Text n ∷ ts) h = absurd (cc)
begins_key_is word (Open ∷ ts) h = absurd (cc)
begins_key_is word (Close ∷ ts) h = absurd (cc)
begins_key_is word (Stray ∷ ts) h = absurd (cc)

front_is : (b : Bool) (t : Token) (ts rest : List Token) → (b ≡ true → ts ≡ t ∷ drop 1 ts) → cond b (Some (drop 1 ts)) None ≡ Some rest → ts ≡ t ∷ rest
front_is true t ts rest f h = let e : drop 1 ts ≡ rest = cc in f refl ∙ ap (λ w. t ∷ w) e
front_is false t ts rest f h = absurd (cc)

-- a symbol that is read stands there
pub symbol_is : (s : ℕ) (ts rest : List Token) → symbol_at s ts ≡ Some rest → ts ≡ Symbol s ∷ rest
symbol_is s ts rest h = front_is (begins s ts) (Symbol s) ts rest (begins_is s ts) h

-- a key that is read stands there
pub key_is : (word : List ℕ) (ts rest : List Token) → key_at word ts ≡ Some rest → ts ≡ Key word ∷ rest
key_is word ts rest h = front_is (begins_key word ts) (Key word) ts rest (begins_key_is word ts) h

-- an identifier that is read stands there
pub ident_is : (ts : List Token) (y : List ℕ × List Token) → ident_at ts ≡ Some y → ts ≡ Name y.0 ∷ y.1
ident_is (Name n ∷ ts) y h = let e = got n ts y h in ap (λ w. Name w ∷ ts) e.0 ∙ ap (λ w. Name y.0 ∷ w) e.1
ident_is [] y h = absurd (cc)
ident_is (Symbol c ∷ ts) y h = absurd (cc)
ident_is (Key n ∷ ts) y h = absurd (cc)
ident_is (Number n ∷ ts) y h = absurd (cc)
ident_is (Constant n ∷ ts) y h = absurd (cc)
ident_is (Text n ∷ ts) y h = absurd (cc)
ident_is (Open ∷ ts) y h = absurd (cc)
ident_is (Close ∷ ts) y h = absurd (cc)
ident_is (Stray ∷ ts) y h = absurd (cc)

pub with_rest_is : {X : Type 0} (o : Option X) (ts : List Token) (y : X × List Token) → with_rest o ts ≡ Some y → (o ≡ Some y.0) × (ts ≡ y.1)
with_rest_is {X} (Some x) ts y h = let g = got x ts y h in (ap (λ (w : X). Some w) g.0, g.1)
with_rest_is None ts y h = absurd (cc)

limited_case : (b : Bool) (n m : ℕ) → cond b (Some n) None ≡ Some m → (b ≡ true) × (n ≡ m)
limited_case true n m h = let e : n ≡ m = cc in (refl, e)
limited_case false n m h = absurd (cc)

limited_is : (least n m : ℕ) → limited least n ≡ Some m → (n ≡ m) × (least ≤ m) × (m ≤ 65535)
limited_is least n m h = let e = limited_case (nat_le least n && nat_le n 65535) n m h in within least n m e.0 e.1
  where
    within : (least n m : ℕ) → (nat_le least n && nat_le n 65535) ≡ true → n ≡ m → (n ≡ m) × (least ≤ m) × (m ≤ 65535)
    within least n m h e = (e, grind (arith, nat_tests), grind (arith, nat_tests))

-- a number that is read stands there, and is within its limits
pub number_is : (least : ℕ) (ts : List Token) (y : ℕ × List Token) → number_at least ts ≡ Some y → (ts ≡ Number y.0 ∷ y.1) × (least ≤ y.0) × (y.0 ≤ 65535)
number_is least (Number n ∷ ts) y h =
    let w = with_rest_is (limited least n) ts y h in
    let l = limited_is least n y.0 w.0 in
    (ap (λ v. Number v ∷ ts) l.0 ∙ ap (λ r. Number y.0 ∷ r) w.1, l.1, l.2)
number_is least [] y h = absurd (cc)
number_is least (Symbol c ∷ ts) y h = absurd (cc)
number_is least (Name n ∷ ts) y h = absurd (cc)
number_is least (Key n ∷ ts) y h = absurd (cc)
number_is least (Constant n ∷ ts) y h = absurd (cc)
number_is least (Text n ∷ ts) y h = absurd (cc)
number_is least (Open ∷ ts) y h = absurd (cc)
number_is least (Close ∷ ts) y h = absurd (cc)
number_is least (Stray ∷ ts) y h = absurd (cc)

pub open_is : (ts rest : List Token) → open_at ts ≡ Some rest → ts ≡ Open ∷ rest
open_is (Open ∷ ts) rest h = let e : ts ≡ rest = cc in ap (λ w. Open ∷ w) e
open_is [] y h = absurd (cc)
open_is (Symbol c ∷ ts) y h = absurd (cc)
open_is (Name n ∷ ts) y h = absurd (cc)
open_is (Key n ∷ ts) y h = absurd (cc)
open_is (Number n ∷ ts) y h = absurd (cc)
open_is (Constant n ∷ ts) y h = absurd (cc)
open_is (Text n ∷ ts) y h = absurd (cc)
open_is (Close ∷ ts) y h = absurd (cc)
open_is (Stray ∷ ts) y h = absurd (cc)

pub close_is : (ts rest : List Token) → close_at ts ≡ Some rest → ts ≡ Close ∷ rest
close_is (Close ∷ ts) rest h = let e : ts ≡ rest = cc in ap (λ w. Close ∷ w) e
close_is [] y h = absurd (cc)
close_is (Symbol c ∷ ts) y h = absurd (cc)
close_is (Name n ∷ ts) y h = absurd (cc)
close_is (Key n ∷ ts) y h = absurd (cc)
close_is (Number n ∷ ts) y h = absurd (cc)
close_is (Constant n ∷ ts) y h = absurd (cc)
close_is (Text n ∷ ts) y h = absurd (cc)
close_is (Open ∷ ts) y h = absurd (cc)
close_is (Stray ∷ ts) y h = absurd (cc)

-- a symbol that stands there is seen
pub begins_self : (s : ℕ) (rest : List Token) → begins s (Symbol s ∷ rest) ≡ true
begins_self s rest = grind (arith, nat_tests)

-- a symbol that stands there is read
pub symbol_again : (s : ℕ) (rest : List Token) → symbol_at s (Symbol s ∷ rest) ≡ Some rest
symbol_again s rest = ap (λ b. cond b (Some rest) None) (begins_self s rest)

-- a key that stands there is read
pub key_again : (word : List ℕ) (rest : List Token) → key_at word (Key word ∷ rest) ≡ Some rest
key_again word rest = ap (λ b. cond b (Some rest) None) (bytes_same word)

limits_hold : (least n : ℕ) → least ≤ n → n ≤ 65535 → (nat_le least n && nat_le n 65535) ≡ true
limits_hold least n a b = grind (arith, nat_tests)

-- a number that stands there is read
pub number_again : (least n : ℕ) (rest : List Token) → least ≤ n → n ≤ 65535 → number_at least (Number n ∷ rest) ≡ hit n rest
number_again least n rest a b = ap (λ q. with_rest (cond q (Some n) None) rest) (limits_hold least n a b)
