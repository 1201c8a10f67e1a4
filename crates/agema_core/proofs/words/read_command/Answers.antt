use Rattle.std.proofs.Common.{◌≡◌, ◌∷◌, [], List, ℕ, Global, map, string_bytes, ap, ◌∙◌}
use Rattle.agema_core.specs.Command.{command_of}
use Rattle.agema_core.proofs.Counted.{none_short, none_middle, none_eight, none_long, nine_texts}
use Rattle.agema_core.proofs.words.read_command.Goals as goal
use Rattle.agema_core.proofs.words.read_command.Goals.{in_default-via-then-words-lt2, in_default-via-else-words-lt2+else-words-lt3+else-words-lt4+else-words-lt5+then-words-lt7, in_default-via-else-words-lt2+else-words-lt3+else-words-lt4+else-words-lt5+else-words-lt7+else-words-lt8+then-words-lt9, in_default-via-else-words-lt2+else-words-lt3+else-words-lt4+else-words-lt5+else-words-lt7+else-words-lt8+else-words-lt9+else-words-lt10}

pub returns-in_default : goal.returns-in_default
returns-in_default c = elim c.in_default.branch [
  | in_default-via-then-words-lt2 w ↦ none_short string_bytes c.args.words.now w.if-words-lt2-1.true
  | in_default-via-else-words-lt2+else-words-lt3+else-words-lt4+else-words-lt5+then-words-lt7 w ↦ none_middle string_bytes c.args.words.now w.if-words-lt5-1.false w.if-words-lt7-1.true
  | in_default-via-else-words-lt2+else-words-lt3+else-words-lt4+else-words-lt5+else-words-lt7+else-words-lt8+then-words-lt9 w ↦ none_eight string_bytes c.args.words.now w.if-words-lt8-1.false w.if-words-lt9-1.true
  | in_default-via-else-words-lt2+else-words-lt3+else-words-lt4+else-words-lt5+else-words-lt7+else-words-lt8+else-words-lt9+else-words-lt10 w ↦ none_long string_bytes c.args.words.now w.if-words-lt10-1.false
]

pub returns-in-len9 : goal.returns-in-len9
returns-in-len9 c =
    let texts = nine_texts (string_bytes {Z = Global}) c.args.words.now c.command-item-then-words-lt10.result c.library-item-then-words-lt10.result c.net-item-then-words-lt10.result c.order-item-then-words-lt10.result c.mode-item-then-words-lt10.result c.balance-item-then-words-lt10.result c.out-item-then-words-lt10.result c.stimulus-item.result c.seed-item.result c.in-len9.len_at_least c.in-len9.len_below
    c.command-item-then-words-lt10.is c.library-item-then-words-lt10.is c.net-item-then-words-lt10.is c.order-item-then-words-lt10.is c.mode-item-then-words-lt10.is c.balance-item-then-words-lt10.is c.out-item-then-words-lt10.is c.stimulus-item.is c.seed-item.is in
    let e0 = c.as_str-in-len9.ensures.value in
    let e1 = c.as_str-in-len9-2.ensures.value in
    let e2 = c.as_str-in-len9-3.ensures.value in
    let e3 = c.as_str-in-len9-4.ensures.value in
    let e4 = c.as_str-in-len9-5.ensures.value in
    let e5 = c.as_str-in-len9-6.ensures.value in
    let e6 = c.as_str-in-len9-7.ensures.value in
    let e7 = c.as_str-in-len9-8.ensures.value in
    let e8 = c.as_str-in-len9-9.ensures.value in
    let same : c.as_str-in-len9.result.now ∷ c.as_str-in-len9-2.result.now ∷ c.as_str-in-len9-3.result.now ∷ c.as_str-in-len9-4.result.now ∷ c.as_str-in-len9-5.result.now ∷ c.as_str-in-len9-6.result.now ∷ c.as_str-in-len9-7.result.now ∷ c.as_str-in-len9-8.result.now ∷ c.as_str-in-len9-9.result.now ∷ [] ≡ map (string_bytes {Z = Global}) c.args.words.now = rw (e0, e1, e2, e3, e4, e5, e6, e7, e8) texts in
    c.read_comparing.ensures ∙ ap command_of same
