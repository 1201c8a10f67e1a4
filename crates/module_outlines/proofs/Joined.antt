-- The outline of a module, put together.
use Rattle.std.proofs.Common.{◌≡◌, ◌++◌, ℕ, suc, List, [], ◌∷◌, map, length, refl, ap, ◌∙◌}
use Rattle.std.specs.List.{flat_map}
use Rattle.agm_net.specs.declared.port.Way.{Way}
use Rattle.verilog_reader.specs.Plain.{PlainModule}
use Rattle.form_bits.specs.Forms.{Text}
use Rattle.form_bits.specs.declared.types.Spot.{Spot}
use Rattle.form_bits.specs.declared.types.Scope.{Scope}
use Rattle.top_module.specs.Ports.{facts_of}
use Rattle.top_module.specs.declared.facts.PortFacts.{PortFacts}
use Rattle.module_outlines.specs.Outlines.{Wide, wides, wide_name, own_wides, spots_from, total_width, port_wide, port_way}
use Rattle.module_outlines.specs.View.{wides_by, way_by, wide_view, Outlines}
use Rattle.module_outlines.specs.declared.wide.Wide as raw
use Rattle.module_outlines.specs.declared.outline.Outline.{Outline}
use Rattle.module_outlines.proofs.Spots.{wides_are, ways_are, port_names}

pub outlined : (m : PlainModule) (facts : List PortFacts) (first all : List raw.Wide) (names ports : Scope) (ways : List Way) (width : ℕ)
    → facts ≡ map (facts_of m) m.ports → map wide_view first ≡ wides_by m.ports facts
    → ports.names ≡ map wide_name (map wide_view first) → ports.spots ≡ spots_from 0 (map wide_view first)
    → map wide_view all ≡ map wide_view first ++ flat_map (own_wides ports.names) m.items
    → names.names ≡ map wide_name (map wide_view all) → names.spots ≡ spots_from 0 (map wide_view all) → width ≡ total_width (map wide_view all)
    → ways ≡ map way_by facts
    → Outlines m (record { wides = all; names = names; ports = ports; ways = ways; width = width })
outlined m facts first all names ports ways width a b c d e f g h i =
    let p : map wide_view first ≡ map (port_wide m) m.ports = b ∙ (ap (λ fs. wides_by m.ports fs) a ∙ wides_are m m.ports) in
    let n : ports.names ≡ m.ports = c ∙ (ap (λ ws. map wide_name ws) p ∙ port_names m m.ports) in
    let w : map wide_view all ≡ wides m =
    e ∙ (ap (λ (ws : List Wide). ws ++ flat_map (own_wides ports.names) m.items) p ∙ ap (λ ns. map (port_wide m) m.ports ++ flat_map (own_wides ns) m.items) n) in
    record {
      wides = w;
      names = f ∙ ap (λ ws. map wide_name ws) w;
      spots = g ∙ ap (λ ws. spots_from 0 ws) w;
      width = h ∙ ap (λ ws. total_width ws) w;
      ports = n;
      port_spots = d ∙ ap (λ ws. spots_from 0 ws) p;
      ways = i ∙ (ap (λ fs. map way_by fs) a ∙ ways_are m m.ports);
    }

pub facts_length : (m : PlainModule) (ns : List Text) → length (map (facts_of m) ns) ≡ length ns
facts_length m [] = refl
facts_length m (n ∷ ns) = ap suc (facts_length m ns)
