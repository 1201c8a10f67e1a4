-- A report as JSON (RFC 8259).
use Rattle.std.specs.Prelude.{ℕ, List, map, codes, cond, Option, Some, None}
use Rattle.std.specs.Str.{bytes_eq}
use Rattle.serde_json.specs.Data.{Data, Members, object, member, number, string, array, unsigned, no_members}
use Rattle.serde_json.specs.View.{items_of}
use Rattle.serde_json.specs.Written.{compact_text}
use Rattle.share_wiring.specs.declared.report.Report.{Report}
use Rattle.share_wiring.specs.declared.report.Mode.{Mode}
use Rattle.share_wiring.specs.declared.report.Mode.TheVariants.{Naive, Aig, Bdd}
use Rattle.share_wiring.specs.declared.report.Balance.{Balance}
use Rattle.share_wiring.specs.declared.report.Balance.TheVariants.{Pipe, Gate}

abbrev pub mode_text : Mode → List ℕ
mode_text Naive = codes "naive"
mode_text Aig = codes "aig"
mode_text Bdd = codes "bdd"

abbrev pub balance_text : Balance → List ℕ
balance_text Pipe = codes "pipe"
balance_text Gate = codes "gate"

-- what words say
abbrev pub mode_of : List ℕ → Option Mode
mode_of word = cond (bytes_eq word (codes "naive")) (Some Naive) (cond (bytes_eq word (codes "aig")) (Some Aig) (cond (bytes_eq word (codes "bdd")) (Some Bdd) None))

abbrev pub balance_of : List ℕ → Option Balance
balance_of word = cond (bytes_eq word (codes "pipe")) (Some Pipe) (cond (bytes_eq word (codes "gate")) (Some Gate) None)

abbrev pub whole_number : ℕ → Data
whole_number n = number (unsigned n)

-- The members of a report's object, their keys in the order of their bytes.
abbrev pub opening_members : (balance : Balance) (gadgets latency : ℕ) → Members → Members
opening_members b g l rest = member (codes "balance") (string (balance_text b)) (member (codes "gadgets") (whole_number g) (member (codes "latency") (whole_number l) rest))

abbrev pub asked_members : (mode : Mode) (order period : ℕ) → Members → Members
asked_members m d p rest = member (codes "mode") (string (mode_text m)) (member (codes "order") (whole_number d) (member (codes "period") (whole_number p) rest))

abbrev pub ports_member : (ports : List (List ℕ)) → Members → Members
ports_member ports rest = member (codes "ports") (array (items_of (map string ports))) rest

abbrev pub count_members : (public_registers random secret_registers : ℕ) → Members → Members
count_members p r s rest = member (codes "public_registers") (whole_number p) (member (codes "random") (whole_number r) (member (codes "secret_registers") (whole_number s) rest))

abbrev pub closing_members : (streams version : ℕ) → Members → Members
closing_members n v rest = member (codes "streams") (whole_number n) (member (codes "version") (whole_number v) rest)

-- the object of a report in some version
unfoldable pub versioned_data : Report → (version : ℕ) → Data
versioned_data r v =
    object (opening_members r.balance r.gadgets r.latency
    (asked_members r.mode r.order r.period
    (ports_member r.ports
    (count_members r.public_registers r.random r.secret_registers
    (closing_members r.streams v
    no_members)))))

-- the object of a report: version 1
abbrev pub report_data : Report → Data
report_data r = versioned_data r 1

-- its text: compact, without a line end
unfoldable pub report_text : Report → List ℕ
report_text r = compact_text (report_data r)
