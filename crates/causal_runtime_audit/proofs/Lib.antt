mod SafeAccepts
