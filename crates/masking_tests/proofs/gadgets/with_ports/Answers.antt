use Rattle.std.proofs.Common.{◌≡◌, ◌+◌, [], ◌∷◌, Some, codes, length, sym, ap, subst, ◌∙◌, List, ℕ}
use Rattle.std.specs.List.{range_with_len}
use Rattle.agm_net.specs.declared.port.Range.{Range}
use Rattle.share_wiring.specs.Wiring.{Wiring, IsSharing}
use Rattle.share_wiring.specs.Built.{IsNewPort}
use Rattle.masking_tests.proofs.Example.{start, one, two, three, one_bit, two_bits, known, second_port, third_port, high_bits, low_bits}
use Rattle.masking_tests.proofs.gadgets.with_ports.Goals as goal

pub port_in-requires-2 : goal.port_in-requires-2
port_in-requires-2 c =
    let zeroth : c.in_ok-builder.builder ≡ start = c.in_ok-builder.ensures in
    let first =
    known c.in_ok-builder.builder c.port_in.new.self start (codes "agm_r") one_bit c.in_ok-_random._random (1 ∷ []) zeroth c.in_ok-_random.ensures.made
    (c.in_ok-_random.ensures.bits ∙ ap (λ (n : Wiring). range_with_len (length n.wires) 1) zeroth) in
    subst (λ (n : Wiring). IsNewPort n (codes "agm_s0_x") (Some two_bits)) (sym first) second_port

pub port_in-requires-3 : goal.port_in-requires-3
port_in-requires-3 c =
    let zeroth : c.in_ok-builder.builder ≡ start = c.in_ok-builder.ensures in
    let first =
    known c.in_ok-builder.builder c.port_in.new.self start (codes "agm_r") one_bit c.in_ok-_random._random (1 ∷ []) zeroth c.in_ok-_random.ensures.made
    (c.in_ok-_random.ensures.bits ∙ ap (λ (n : Wiring). range_with_len (length n.wires) 1) zeroth) in
    let second =
    known c.port_in.new.self c.port_in-2.new.self one (codes "agm_s0_x") two_bits c.in_ok-_zeroth._zeroth (2 ∷ 3 ∷ []) first c.in_ok-_zeroth.ensures.made
    (c.in_ok-_zeroth.ensures.bits ∙ ap (λ (n : Wiring). range_with_len (length n.wires) 2) first) in
    subst (λ (n : Wiring). IsNewPort n (codes "agm_s1_x") (Some two_bits)) (sym second) third_port

pub returns-clause-first : goal.returns-clause-first
returns-clause-first c =
    let zeroth : c.in_ok-builder.builder ≡ start = c.in_ok-builder.ensures in
    let first =
    known c.in_ok-builder.builder c.port_in.new.self start (codes "agm_r") one_bit c.in_ok-_random._random (1 ∷ []) zeroth c.in_ok-_random.ensures.made
    (c.in_ok-_random.ensures.bits ∙ ap (λ (n : Wiring). range_with_len (length n.wires) 1) zeroth) in
    let second =
    known c.port_in.new.self c.port_in-2.new.self one (codes "agm_s0_x") two_bits c.in_ok-_zeroth._zeroth (2 ∷ 3 ∷ []) first c.in_ok-_zeroth.ensures.made
    (c.in_ok-_zeroth.ensures.bits ∙ ap (λ (n : Wiring). range_with_len (length n.wires) 2) first) in
    let third =
    known c.port_in-2.new.self c.port_in-3.new.self two (codes "agm_s1_x") two_bits c.in_ok-_first._first (4 ∷ 5 ∷ []) second c.in_ok-_first.ensures.made
    (c.in_ok-_first.ensures.bits ∙ ap (λ (n : Wiring). range_with_len (length n.wires) 2) second) in
    subst (λ (n : Wiring). IsSharing n.wires 2 (2 ∷ 4 ∷ [])) (sym third) high_bits

pub returns-clause-second : goal.returns-clause-second
returns-clause-second c =
    let zeroth : c.in_ok-builder.builder ≡ start = c.in_ok-builder.ensures in
    let first =
    known c.in_ok-builder.builder c.port_in.new.self start (codes "agm_r") one_bit c.in_ok-_random._random (1 ∷ []) zeroth c.in_ok-_random.ensures.made
    (c.in_ok-_random.ensures.bits ∙ ap (λ (n : Wiring). range_with_len (length n.wires) 1) zeroth) in
    let second =
    known c.port_in.new.self c.port_in-2.new.self one (codes "agm_s0_x") two_bits c.in_ok-_zeroth._zeroth (2 ∷ 3 ∷ []) first c.in_ok-_zeroth.ensures.made
    (c.in_ok-_zeroth.ensures.bits ∙ ap (λ (n : Wiring). range_with_len (length n.wires) 2) first) in
    let third =
    known c.port_in-2.new.self c.port_in-3.new.self two (codes "agm_s1_x") two_bits c.in_ok-_first._first (4 ∷ 5 ∷ []) second c.in_ok-_first.ensures.made
    (c.in_ok-_first.ensures.bits ∙ ap (λ (n : Wiring). range_with_len (length n.wires) 2) second) in
    subst (λ (n : Wiring). IsSharing n.wires 2 (3 ∷ 5 ∷ [])) (sym third) low_bits
