-- The inputs of a step, one by one.
use Rattle.std.proofs.Common.{◌≡◌, ℕ, ◌+◌, ◌<◌, ◌++◌, Bool, true, ◌&&◌, List, [], ◌∷◌, length, get_or, drop, map, flat_map, replicate, Option, None, is_some, unwrap_or, refl, sym, ap, ◌∙◌, arith}
use Rattle.std.specs.List.{list_all}
use Rattle.std.proofs.lemmas.List.{drop_more, length-map, get_or-map}
use Rattle.stimulus.proofs.Lists.{all_of_map}
use Rattle.stimulus.specs.Answer.{bits_in, row_of}
use Rattle.stimulus.specs.Asked.{names_of, text_of, text_at, are_bits, has_bits, has_keys, is_among}
use Rattle.stimulus.specs.declared.inputs.Input.{Input}
use Rattle.stimulus.specs.declared.texts.Member.{Member}

pub blank : (names : List (List ℕ)) → replicate (length names) None ≡ map (text_of []) names
blank [] = refl
blank (n ∷ ns) = ap (λ (ts : List (Option (List ℕ))). None ∷ ts) (blank ns)

pub keys_told : (names : List (List ℕ)) (step : List Member) (known there : Bool) (texts : List (Option (List ℕ))) → known ≡ list_all (λ m. is_among names m.key) step → known ≡ true → texts ≡ map (text_of step) names → there ≡ list_all (λ t. is_some t) texts → there ≡ has_keys names step
keys_told names step known there texts all is texts_are told =
    told ∙ ap (list_all (λ (t : Option (List ℕ)). is_some t)) texts_are ∙ all_of_map (λ (t : Option (List ℕ)). is_some t) (text_of step) names
    ∙ ap (λ b. b && list_all (λ n. is_some (text_of step n)) names) (sym is ∙ all)

-- the text that stands for an input
pub text_here : (inputs : List Input) (step : List Member) (texts : List (Option (List ℕ))) (k : ℕ) (x : Input) (t : Option (List ℕ)) → k < length inputs → x ≡ get_or inputs k x → t ≡ get_or texts k t → texts ≡ map (text_of step) (names_of inputs) → unwrap_or t [] ≡ text_at step x.name
text_here inputs step texts k x t within here is all =
    let long : length (names_of inputs) ≡ length inputs = length-map inputs (λ (i : Input). i.name) in
    let name : get_or (names_of inputs) k [] ≡ x.name = get_or-map (λ (i : Input). i.name) inputs k x [] within ∙ ap (λ (i : Input). i.name) (sym here) in
    let found : get_or (map (text_of step) (names_of inputs)) k t ≡ text_of step (get_or (names_of inputs) k []) = get_or-map (text_of step) (names_of inputs) k [] t (omega arith) in
    ap (λ (o : Option (List ℕ)). unwrap_or o []) (is ∙ ap (λ (ts : List (Option (List ℕ))). get_or ts k t) all ∙ found ∙ ap (text_of step) name)

pub bits_left : (inputs : List Input) (step : List Member) (k : ℕ) (x : Input) → k < length inputs → x ≡ get_or inputs k x → has_bits (drop k inputs) step ≡ (are_bits x.width (text_at step x.name) && has_bits (drop (k + 1) inputs) step)
bits_left inputs step k x within here = ap (λ (is : List Input). has_bits is step) (drop_more inputs k x within ∙ ap (λ (i : Input). i ∷ drop (k + 1) inputs) (sym here))

-- whether this input has its bits, as it was found out
pub told_here : (inputs : List Input) (step : List Member) (texts : List (Option (List ℕ))) (k : ℕ) (x : Input) (t : Option (List ℕ)) (text : List ℕ) (b : Bool) → k < length inputs → x ≡ get_or inputs k x → t ≡ get_or texts k t → texts ≡ map (text_of step) (names_of inputs)
    → text ≡ unwrap_or t [] → b ≡ are_bits x.width text → has_bits (drop k inputs) step ≡ (b && has_bits (drop (k + 1) inputs) step)
told_here inputs step texts k x t text b within here is all text_is told =
    bits_left inputs step k x within here ∙ ap (λ c. c && has_bits (drop (k + 1) inputs) step) (sym (told ∙ ap (are_bits x.width) (text_is ∙ text_here inputs step texts k x t within here is all)))

pub rows_are : (inputs : List Input) (step : List Member) → flat_map (λ t. bits_in (unwrap_or t [])) (map (text_of step) (names_of inputs)) ≡ row_of inputs step
rows_are [] step = refl
rows_are (i ∷ is) step = ap (λ (r : List Bool). bits_in (text_at step i.name) ++ r) (rows_are is step)
