mod OneGroup
