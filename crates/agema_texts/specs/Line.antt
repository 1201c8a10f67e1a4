-- The printed line of a masked design.
use Rattle.std.specs.Prelude.{ℕ, List, ◌++◌, codes}
use Rattle.std.specs.Fmt.{decimal}
use Rattle.share_wiring.specs.declared.report.Report.{Report}
use Rattle.masked_writer.specs.Report.{mode_text, balance_text}

-- what was asked for
unfoldable pub request_text : Report → List ℕ
request_text r = codes "order " ++ (decimal r.order ++ (codes " mode " ++ (mode_text r.mode ++ (codes " balance " ++ balance_text r.balance))))

-- what it costs
unfoldable pub cost_text : Report → List ℕ
cost_text r = codes " gadgets " ++ (decimal r.gadgets ++ (codes " random " ++ decimal r.random))

-- when it is loaded and read
unfoldable pub schedule_text : Report → List ℕ
schedule_text r =
    codes " latency " ++ (decimal r.latency ++ (codes " period " ++ (decimal r.period ++ (codes " streams " ++ (decimal r.streams ++ codes "\n")))))

-- `order .. mode .. balance .. gadgets .. random .. latency .. period .. streams ..`, and a line feed
unfoldable pub mask_line : Report → List ℕ
mask_line r = request_text r ++ (cost_text r ++ schedule_text r)
