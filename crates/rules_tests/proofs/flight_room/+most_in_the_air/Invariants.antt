use Rattle.rules_tests.proofs.flight_room.+most_in_the_air.Given as goal

abbrev pub decreases-most_in_the_air : goal.decreases-most_in_the_air
decreases-most_in_the_air l = l.number
