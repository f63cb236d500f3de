mod TicketLemmas
