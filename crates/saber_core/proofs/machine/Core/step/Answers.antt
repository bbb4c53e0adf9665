-- A core is sound after each event.
use Rattle.saber_core.specs.declared.events.Event.TheVariants.{Fill, Claim, Deposit, Win, Take, Give, Release}
use Rattle.saber_core.proofs.Fits.{sound_step}
use Rattle.saber_core.proofs.machine.Core.step.Goals as goal

pub returns-in-Fill-clause-sound : goal.returns-in-Fill-clause-sound
returns-in-Fill-clause-sound c = sound_step c.self.inside c.args.self.now _ Fill c.self.view_is c.self.invariant c.fill.ensures

pub returns-in-Claim-clause-sound : goal.returns-in-Claim-clause-sound
returns-in-Claim-clause-sound c = sound_step c.self.inside c.args.self.now _ (Claim c.in-Claim.seat c.in-Claim.task) c.self.view_is c.self.invariant c.claim.ensures

pub returns-in-Deposit-clause-sound : goal.returns-in-Deposit-clause-sound
returns-in-Deposit-clause-sound c = sound_step c.self.inside c.args.self.now _ (Deposit c.in-Deposit.seat c.in-Deposit.task c.in-Deposit.mark) c.self.view_is c.self.invariant c.deposit.ensures

pub returns-in-Win-clause-sound : goal.returns-in-Win-clause-sound
returns-in-Win-clause-sound c = sound_step c.self.inside c.args.self.now _ (Win c.in-Win.seat) c.self.view_is c.self.invariant c.win.ensures

pub returns-in-Take-clause-sound : goal.returns-in-Take-clause-sound
returns-in-Take-clause-sound c = sound_step c.self.inside c.args.self.now _ (Take c.in-Take.seat) c.self.view_is c.self.invariant c.take.ensures

pub returns-in-Give-clause-sound : goal.returns-in-Give-clause-sound
returns-in-Give-clause-sound c = sound_step c.self.inside c.args.self.now _ (Give c.in-Give.seat) c.self.view_is c.self.invariant c.give.ensures

pub returns-in-Release-clause-sound : goal.returns-in-Release-clause-sound
returns-in-Release-clause-sound c = sound_step c.self.inside c.args.self.now _ (Release c.in-Release.seat) c.self.view_is c.self.invariant c.release.ensures
