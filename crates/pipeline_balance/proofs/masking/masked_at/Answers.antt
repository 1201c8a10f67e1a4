use Rattle.std.proofs.Common.{◌+◌, ap}
use Rattle.pipeline_balance.proofs.masking.masked_at.Goals as goal

pub masked_net-requires : goal.masked_net-requires
masked_net-requires c = record { piped = c.requires.piped; fits = c.requires.fits; laid = c.requires.laid; report = c.requires.report; size = ap (λ d. d + 1) c.in-1.is }

pub masked_net-requires-in-2 : goal.masked_net-requires-in-2
masked_net-requires-in-2 c = record { piped = c.requires.piped; fits = c.requires.fits; laid = c.requires.laid; report = c.requires.report; size = ap (λ d. d + 1) c.in-2.is }

pub masked_net-requires-in-3 : goal.masked_net-requires-in-3
masked_net-requires-in-3 c = record { piped = c.requires.piped; fits = c.requires.fits; laid = c.requires.laid; report = c.requires.report; size = ap (λ d. d + 1) c.in-3.is }

pub masked_net-requires-in-4 : goal.masked_net-requires-in-4
masked_net-requires-in-4 c = record { piped = c.requires.piped; fits = c.requires.fits; laid = c.requires.laid; report = c.requires.report; size = ap (λ d. d + 1) c.in-4.is }

pub masked_net-requires-in-5 : goal.masked_net-requires-in-5
masked_net-requires-in-5 c = record { piped = c.requires.piped; fits = c.requires.fits; laid = c.requires.laid; report = c.requires.report; size = ap (λ d. d + 1) c.in-5.is }

pub masked_net-requires-in-6 : goal.masked_net-requires-in-6
masked_net-requires-in-6 c = record { piped = c.requires.piped; fits = c.requires.fits; laid = c.requires.laid; report = c.requires.report; size = ap (λ d. d + 1) c.in-6.is }

pub masked_net-requires-in-7 : goal.masked_net-requires-in-7
masked_net-requires-in-7 c = record { piped = c.requires.piped; fits = c.requires.fits; laid = c.requires.laid; report = c.requires.report; size = ap (λ d. d + 1) c.in-7.is }
